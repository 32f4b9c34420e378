-- Any two calls with the same arguments that the contract of a function of this crate allows are equal. Assumes nothing.
use mathlib.Core.Path.{refl, sym, ◌∙◌}
use Rattle.contracts.specs.Contract.{OneAnswer}
use Rattle.reach.specs.contracts
use Rattle.reach.proofs

pub contains_one_answer : OneAnswer contracts.sets.contains.ended proofs.sets.contains.Reads.Learnt
contains_one_answer κs a x y = (x.told ∙ sym y.told, refl)

pub insert_one_answer : OneAnswer contracts.sets.insert.ended proofs.sets.insert.Reads.Learnt
insert_one_answer κs a x y = (x.told ∙ sym y.told, refl)

pub moves_of_one_answer : OneAnswer contracts.Moves.of.ended proofs.Moves.of.Reads.Learnt
moves_of_one_answer κs a x y = (x.told ∙ sym y.told, refl)

pub moves_next_one_answer : OneAnswer contracts.Moves.next.ended proofs.Moves.next.Reads.Learnt
moves_next_one_answer κs a x y = (λ i. record { 0 = (x.told ∙ sym y.told) i }, refl)

pub moves_reached_within_one_answer : OneAnswer contracts.Moves.reached_within.ended proofs.Moves.reached_within.Reads.Learnt
moves_reached_within_one_answer κs a x y = (x.told ∙ sym y.told, refl)

pub moves_reached_one_answer : OneAnswer contracts.Moves.reached.ended proofs.Moves.reached.Reads.Learnt
moves_reached_one_answer κs a x y = (x.told ∙ sym y.told, refl)

pub moves_with_moves_one_answer : OneAnswer contracts.Moves.with_moves.ended proofs.Moves.with_moves.Reads.Learnt
moves_with_moves_one_answer κs a x y = (x.told ∙ sym y.told, refl)

pub moves_event_into_one_answer : OneAnswer contracts.Moves.event_into.ended proofs.Moves.event_into.Reads.Learnt
moves_event_into_one_answer κs a x y = (x.told ∙ sym y.told, refl)

pub moves_backward_one_answer : OneAnswer contracts.Moves.backward.ended proofs.Moves.backward.Reads.Learnt
moves_backward_one_answer κs a x y = (x.told ∙ sym y.told, refl)
