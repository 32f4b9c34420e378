-- Any two calls with the same arguments that the contract of a function of this crate allows are equal. Assumes nothing.
use mathlib.Core.Path.{refl, sym, ◌∙◌}
use Rattle.contracts.specs.Contract.{OneAnswer}
use Rattle.effects.proofs.KeptLaws.{answered_one}
use Rattle.effects.specs.contracts
use Rattle.effects.proofs

pub run_new_one_answer : OneAnswer contracts.Run.new.ended proofs.Run.new.Reads.Learnt
run_new_one_answer κs a x y = (x.told ∙ sym y.told, refl)

pub halt_one_answer : OneAnswer contracts.halt.ended proofs.halt.Reads.Learnt
halt_one_answer κs a x y = (x.told ∙ sym y.told, refl)

pub store_one_answer : OneAnswer contracts.store.ended proofs.store.Reads.Learnt
store_one_answer κs a x y = (
  answered_one _ _ (x.told.answer ∙ sym y.told.answer),
  λ i. (tt, (tt, (tt, ((x.told.memory_after ∙ sym y.told.memory_after) i, tt)))),
)

pub dump_one_answer : OneAnswer contracts.dump.ended proofs.dump.Reads.Learnt
dump_one_answer κs a x y = (
  answered_one _ _ (x.told.answer ∙ sym y.told.answer),
  λ i. (tt, (tt, (tt, ((x.told.output_after ∙ sym y.told.output_after) i, tt)))),
)
