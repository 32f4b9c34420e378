-- Any two calls with the same arguments that the contract of a function of this crate allows are equal. Assumes nothing.
use Prim.Native.Nat.{ℕ, ◌≤◌}
use mathlib.Core.Path.{◌≡◌, refl, sym, ap, ◌∙◌}
use native.Mathlib.Omega.{arith}
use Rattle.std.specs.Prelude.{Result, Ok, Err}
use Rattle.rule.specs.Operations.{mark_of, ByMark}
use Rattle.rule.specs.declared.NoOperation.{NoOperation}
use Rattle.rule.specs.declared.Operation.{Operation}
use Rattle.rule.specs.declared.Operation.TheVariants.{Halt, Store, Dump}
use Rattle.contracts.specs.Contract.{OneAnswer}
use Rattle.rule.specs.contracts
use Rattle.rule.proofs

pub limits_hold_one_answer : OneAnswer contracts.Limits.hold.ended proofs.Limits.hold.Reads.Learnt
limits_hold_one_answer κs a x y = (x.told ∙ sym y.told, refl)

pub operation_mark_one_answer : OneAnswer contracts.Operation.mark.ended proofs.Operation.mark.Reads.Learnt
operation_mark_one_answer κs a x y = (x.told ∙ sym y.told, refl)

pub refusal_told_one_answer : OneAnswer contracts.Refusal.told.ended proofs.Refusal.told.Reads.Learnt
refusal_told_one_answer κs a x y = (x.told ∙ sym y.told, refl)

pub place_one_answer : OneAnswer contracts.place.ended proofs.place.Reads.Learnt
place_one_answer κs a x y = (x.told ∙ sym y.told, refl)

-- the operation of a number is one
mark_one : (a b : Operation) → mark_of a ≡ mark_of b → a ≡ b
mark_one Halt Halt e = refl
mark_one Halt Store e = absurd (omega (arith, e))
mark_one Halt Dump e = absurd (omega (arith, e))
mark_one Store Halt e = absurd (omega (arith, e))
mark_one Store Store e = refl
mark_one Store Dump e = absurd (omega (arith, e))
mark_one Dump Halt e = absurd (omega (arith, e))
mark_one Dump Store e = absurd (omega (arith, e))
mark_one Dump Dump e = refl

mark_small : (o : Operation) → mark_of o ≤ 2
mark_small Halt = omega arith
mark_small Store = omega arith
mark_small Dump = omega arith

by_mark_one : (mark : ℕ) (r s : Result Operation NoOperation) → ByMark mark r → ByMark mark s → r ≡ s
by_mark_one mark (Ok a) (Ok b) x y = ap Ok (mark_one a b (x ∙ sym y))
by_mark_one mark (Ok a) (Err none) x y = absurd (omega (arith, x, y, mark_small a))
by_mark_one mark (Err none) (Ok b) x y = absurd (omega (arith, x, y, mark_small b))
by_mark_one mark (Err a) (Err b) x y = refl

pub operation_try_from_one_answer : OneAnswer contracts.OperationTryFromU8.try_from.ended proofs.OperationTryFromU8.try_from.Reads.Learnt
operation_try_from_one_answer κs a x y = (by_mark_one a.0 x.result y.result x.told y.told, refl)
