-- Any two calls with the same arguments that the contract of a function of this crate allows are equal. Assumes nothing.
use mathlib.Core.Path.{refl, sym, ◌∙◌}
use Rattle.contracts.specs.Contract.{OneAnswer}
use Rattle.operations.specs.contracts
use Rattle.operations.proofs

pub value_one_answer : OneAnswer contracts.value.ended proofs.value.Reads.Learnt
value_one_answer κs a x y = (x.told ∙ sym y.told, refl)

pub operation_one_answer : OneAnswer contracts.operation.ended proofs.operation.Reads.Learnt
operation_one_answer κs a x y = (x.told ∙ sym y.told, refl)

pub marks_at_one_answer : OneAnswer contracts.Marks.at.ended proofs.Marks.at.Reads.Learnt
marks_at_one_answer κs a x y = (x.told ∙ sym y.told, refl)

pub good_states_one_answer : OneAnswer contracts.good_states.ended proofs.good_states.Reads.Learnt
good_states_one_answer κs a x y = (x.told ∙ sym y.told, refl)

pub mark_states_one_answer : OneAnswer contracts.mark_states.ended proofs.mark_states.Reads.Learnt
mark_states_one_answer κs a x y = (x.told ∙ sym y.told, refl)

pub stops_one_answer : OneAnswer contracts.stops.ended proofs.stops.Reads.Learnt
stops_one_answer κs a x y = (x.told ∙ sym y.told, refl)
