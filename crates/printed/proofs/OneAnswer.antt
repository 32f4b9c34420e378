-- Any two calls with the same arguments that the contract of a function of this crate allows are equal. Assumes nothing.
use mathlib.Core.Path.{sym, ◌∙◌}
use Rattle.contracts.specs.Contract.{OneAnswer}
use Rattle.printed.specs.contracts
use Rattle.printed.proofs

pub print_one_answer : OneAnswer contracts.print.ended proofs.print.Reads.Learnt
print_one_answer κs a x y = (x.told.answer ∙ sym y.told.answer, λ i. (tt, ((x.told.output ∙ sym y.told.output) i, tt)))
