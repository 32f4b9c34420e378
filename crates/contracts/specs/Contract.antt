-- What is said of a function's own contract: that it leaves one answer, and that it keeps a promise.
-- Both are said of `Learnt`, what the toolchain makes of the `ensures` that stands over the function in src/: a contract that says less does not have it.
-- Assumes nothing: these are definitions.
use Rattle.std.specs.Prelude.{◌≡◌}
use contract.Lifetimes.{Lfts}
use denote.Triple.Entry.{Args, Res}
use denote.Triple.Clauses.{Ended, Lasts, AtExit, at_exit}

-- what a contract tells a caller, of the arguments, the result and the parameters at exit
abbrev pub Tells : Ended → Type 1
Tells f = (κs : Lfts f.signature.lifetimes) → Args f.signature κs → Res f.signature κs → AtExit f κs → Type 0

-- a call that the contract allows: the result, what is last behind each `&mut` (`tt` of every other parameter), and what is told of them
pub record Call (f : Ended) (tells : Tells f) (κs : Lfts f.signature.lifetimes) (a : Args f.signature κs) : Type 0 where
  pub result : Res f.signature κs
  pub last : Lasts f κs a
  pub told : tells κs a result (at_exit f κs a last)

-- any two calls with the same arguments that the contract allows give the same result and leave the same behind each `&mut`
abbrev pub OneAnswer : (f : Ended) → Tells f → Type 0
OneAnswer f tells = (κs : Lfts f.signature.lifetimes) (a : Args f.signature κs) (x y : Call f tells κs a) → (x.result ≡ y.result) × (x.last ≡ y.last)

-- a promise, of the arguments, the result and what is last behind each `&mut`
abbrev pub Promises : Ended → Type 1
Promises f = (κs : Lfts f.signature.lifetimes) (a : Args f.signature κs) → Res f.signature κs → Lasts f κs a → Type 0

-- every call that the contract allows keeps the promise
abbrev pub Keeps : (f : Ended) → Tells f → Promises f → Type 0
Keeps f tells promise = (κs : Lfts f.signature.lifetimes) (a : Args f.signature κs) (x : Call f tells κs a) → promise κs a x.result x.last
