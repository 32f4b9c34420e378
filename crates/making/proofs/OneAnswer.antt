-- Any two calls with the same arguments that the contract of a function of this crate allows are equal. Assumes nothing.
use mathlib.Core.Path.{sym, ◌∙◌}
use Rattle.contracts.specs.Contract.{OneAnswer}
use Rattle.making.specs.contracts
use Rattle.making.proofs

pub make_one_answer : OneAnswer contracts.make.ended proofs.make.Reads.Learnt
make_one_answer κs a x y = (x.told.answer ∙ sym y.told.answer, λ i. (tt, ((x.told.output ∙ sym y.told.output) i, tt)))
