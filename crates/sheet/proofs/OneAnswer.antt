-- Any two calls with the same arguments that the contract of a function of this crate allows are equal. Assumes nothing.
use mathlib.Core.Path.{refl, sym, ◌∙◌}
use Rattle.contracts.specs.Contract.{OneAnswer}
use Rattle.sheet.specs.contracts
use Rattle.sheet.proofs

pub open_one_answer : OneAnswer contracts.open.ended proofs.open.Reads.Learnt
open_one_answer κs a x y = (x.told ∙ sym y.told, refl)
