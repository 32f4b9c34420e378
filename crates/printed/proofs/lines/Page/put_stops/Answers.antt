-- `printed::lines::Page::put_stops` meets its contract: the loop puts state after state, and nothing of one that does not stop.
-- Assumes nothing.
use native.Mathlib.Omega.{arith}
use borrow.Author.Rules.{rules}
use Rattle.printed.proofs.LoopLaws.{flat_none, flat_more, flat_skip, flat_all}
use Rattle.printed.proofs.StopLaws.{stop_put, stop_not}
use Rattle.printed.proofs.lines.Page.put_stops.Goals as goal
use Rattle.printed.proofs.lines.Page.put_stops.Goals.{in-Halt, in_default}

pub loop-q-init : goal.loop-q-init
loop-q-init c = (omega arith, flat_none _ _ (omega arith) (omega arith))

pub loop-q-preserved : goal.loop-q-preserved
loop-q-preserved c =
    elim c.match-at.branch [
      | in-Halt w ↦ (omega arith, rw w.text-is (search (rules, flat_more, stop_put)))
      | in_default w ↦ (omega arith, rw w.text-is (search (rules, flat_skip, stop_not)))
    ]

pub returns : goal.returns
returns c = search (rules, flat_all)
