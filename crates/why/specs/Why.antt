-- What an answer says, and what asking why promises.
-- Assumes nothing.
use Rattle.std.specs.Prelude.{ℕ, ◌≡◌, List, [], ◌∷◌, ◌++◌, length, drop, leb, Ok, Err, Result}
use Rattle.rule.specs.Drawing.{Drawing, states, events, next}
use Rattle.rule.specs.Given.{NoPair}
use Rattle.rule.specs.Operations.{operation_at}
use Rattle.rule.specs.Putting.{PutPromise}
use Rattle.rule.specs.Refusals.{refuse_if, first_of, tell, told_of}
use Rattle.rule.specs.declared.Told.{Told}
use Rattle.rule.specs.declared.Operation.{Operation}
use Rattle.rule.specs.declared.Operation.TheVariants.{Halt, Store, Dump}
use Rattle.rule.specs.declared.Refusal.{Refusal}
use Rattle.rule.specs.declared.Refusal.TheVariants.{Run, Code}
use Rattle.rulefile.specs.Layout.{drawing_in}
use Rattle.rulefile.specs.Reading.{verdict_on}
use Rattle.why.specs.Grounds.{Unmet, Lost, HaltGround, StoreGround, lost_pair, wanted_pair, way_told}
use Rattle.why.specs.declared.Ground.{Ground}
use Rattle.why.specs.declared.Ground.TheVariants.{Halted, Held, Released}
use Rattle.rule.specs.Verdict.{Verdict, Written}

-- an answer names an operation
pub data Names : Ground → Operation → Type 0 where
  halt : {i : ℕ} → Names (Halted i) Halt
  store : {i n : ℕ} → Names (Held i n) Store
  dump : Names Released Dump

-- what an answer says of the state t, in the request's words, and what the output is after it
pub data Says (d : Drawing) (t : ℕ) (out out' : List ℕ) : Ground → Type 0 where
  halted : {i : ℕ} → HaltGround d t i → out' ≡ out → Says d t out out' (Halted i)
  held : {i n : ℕ} (w : List ℕ) → NoPair d (Lost d t) → StoreGround d t i w → n ≡ length w → out' ≡ w ++ drop n out → Says d t out out' (Held i n)
  released : NoPair d (Unmet d t) → out' ≡ out → Says d t out out' Released

-- what is refused before there is a way to put: 1 to 9 of the rule, then 12 for the state and 13 for the event
unfoldable pub why_verdict : List ℕ → (s e : ℕ) → Verdict
why_verdict f s e =
    first_of (verdict_on f ∷ refuse_if (leb (states (drawing_in f)) s) Run ∷ refuse_if (leb (events (drawing_in f)) e) Code ∷ [])

-- the answer, by what came of putting the way, the operation, the pair that is lost and the pair that is wanted
abbrev pub ground_by : Written → Operation → (lost wanted : ℕ) → Result Ground Refusal
ground_by (Err r) o lost wanted = Err r
ground_by (Ok n) Halt lost wanted = Ok (Halted lost)
ground_by (Ok n) Store lost wanted = Ok (Held wanted n)
ground_by (Ok n) Dump lost wanted = Ok Released

-- judged at t: the way is put to the front of the output, and the answer names the operation and its ground
pub record GroundPromise (v : Verdict) (d : Drawing) (t : ℕ) (out : List ℕ) (g : Result Ground Refusal) (out' : List ℕ) : Type 0 where
  pub written : Written
  pub put : PutPromise v (way_told d t) out written out'
  pub answer : g ≡ ground_by written (operation_at d t) (lost_pair d t) (wanted_pair d t)

-- the promise: all is judged at the state after the event
abbrev pub WhyPromise : List ℕ → (s e : ℕ) → (out : List ℕ) → Result Ground Refusal → (out' : List ℕ) → Type 0
WhyPromise f s e out g out' = GroundPromise (why_verdict f s e) (drawing_in f) (next (drawing_in f) s e) out g out'

-- the number and the places of an answer
abbrev pub ground_told : Result Ground Refusal → Told
ground_told (Ok g) = tell 0 0 0
ground_told (Err r) = told_of r
