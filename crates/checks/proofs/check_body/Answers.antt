-- `checks::check_body` meets its contract: a table that passed check 5 has no target that is not a state.
-- Assumes nothing.
use Rattle.checks.proofs.CheckLaws.{entries_closed}
use Rattle.checks.proofs.check_body.Goals as goal

pub check_closed_moves-requires-clause-closed : goal.check_closed_moves-requires-clause-closed
check_closed_moves-requires-clause-closed c = entries_closed _ c.in_ok-check_entries.ensures
