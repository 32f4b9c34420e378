-- Any two calls with the same arguments that the contract of a function of this crate allows are equal. Assumes nothing.
use mathlib.Core.Path.{refl, sym, ◌∙◌}
use Rattle.contracts.specs.Contract.{OneAnswer}
use Rattle.monitor.specs.contracts
use Rattle.monitor.proofs

pub fresh_one_answer : OneAnswer contracts.fresh.ended proofs.fresh.Reads.Learnt
fresh_one_answer κs a x y = (x.told ∙ sym y.told, refl)

pub event_one_answer : OneAnswer contracts.event.ended proofs.event.Reads.Learnt
event_one_answer κs a x y = (
  x.told.answer ∙ sym y.told.answer,
  λ i. (tt, (tt, (tt, ((x.told.memory_after ∙ sym y.told.memory_after) i, ((x.told.output_after ∙ sym y.told.output_after) i, tt))))),
)

pub events_one_answer : OneAnswer contracts.events.ended proofs.events.Reads.Learnt
events_one_answer κs a x y = (
  x.told.report ∙ sym y.told.report,
  λ i. (tt, (tt, (tt, ((x.told.memory_after ∙ sym y.told.memory_after) i, ((x.told.output_after ∙ sym y.told.output_after) i, tt))))),
)
