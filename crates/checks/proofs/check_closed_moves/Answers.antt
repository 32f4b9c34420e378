-- `checks::check_closed_moves` meets its contract: in class 4, at a row with a forbidden move, after one without.
-- Assumes nothing.
use Rattle.std.proofs.Common.{rules}
use Rattle.checks.proofs.CheckLaws.{moves_four, row_hit, row_none}
use Rattle.checks.proofs.check_closed_moves.Goals as goal

pub returns-then-body-eq4 : goal.returns-then-body-eq4
returns-then-body-eq4 c = search (rules, moves_four)

pub returns-then-e-body : goal.returns-then-e-body
returns-then-e-body c = search (rules, row_hit)

pub loop-s-preserved : goal.loop-s-preserved
loop-s-preserved c = search (rules, row_none)
