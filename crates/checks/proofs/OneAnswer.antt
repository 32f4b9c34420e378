-- Any two calls with the same arguments that the contract of a function of this crate allows are equal. Assumes nothing.
use mathlib.Core.Path.{refl, sym, ◌∙◌}
use Rattle.contracts.specs.Contract.{OneAnswer}
use Rattle.checks.specs.contracts
use Rattle.checks.proofs

pub check_body_one_answer : OneAnswer contracts.check_body.ended proofs.check_body.Reads.Learnt
check_body_one_answer κs a x y = (x.told ∙ sym y.told, refl)

pub check_entries_one_answer : OneAnswer contracts.check_entries.ended proofs.check_entries.Reads.Learnt
check_entries_one_answer κs a x y = (x.told ∙ sym y.told, refl)

pub check_members_one_answer : OneAnswer contracts.check_members.ended proofs.check_members.Reads.Learnt
check_members_one_answer κs a x y = (x.told ∙ sym y.told, refl)

pub check_excess_one_answer : OneAnswer contracts.check_excess.ended proofs.check_excess.Reads.Learnt
check_excess_one_answer κs a x y = (x.told ∙ sym y.told, refl)

pub check_moves_one_answer : OneAnswer contracts.check_moves.ended proofs.check_moves.Reads.Learnt
check_moves_one_answer κs a x y = (x.told ∙ sym y.told, refl)

pub check_stopped_one_answer : OneAnswer contracts.check_stopped.ended proofs.check_stopped.Reads.Learnt
check_stopped_one_answer κs a x y = (x.told ∙ sym y.told, refl)
