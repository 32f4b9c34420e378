-- `checks::check_moves` meets its contract in class 4. Assumes nothing.
use Rattle.std.proofs.Common.{rules}
use Rattle.checks.proofs.CheckLaws.{moves_four}
use Rattle.checks.proofs.check_moves.Goals as goal

pub returns-then-body-eq4 : goal.returns-then-body-eq4
returns-then-body-eq4 c = search (rules, moves_four)
