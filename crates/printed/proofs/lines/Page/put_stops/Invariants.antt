-- What `printed::lines::Page::put_stops` keeps at each turn: the loop puts state after state.
-- Assumes nothing.
use Prim.Native.Nat.{◌-◌, ◌≤◌}
use Rattle.rulefile.specs.Layout.{flat_up_to}
use Rattle.printed.specs.Writing.{Puts}
use Rattle.printed.specs.Writers.{halts_into, stop_at}
use Rattle.printed.proofs.lines.Page.put_stops.Given as goal

abbrev pub invariant-loop-q : goal.invariant-loop-q
invariant-loop-q l = (l.q ≤ l.self.moves.states) × Puts l.initial.text l.text (flat_up_to (stop_at (halts_into l.self.marks)) l.q)

abbrev pub decreases-loop-q : goal.decreases-loop-q
decreases-loop-q l = l.self.moves.states - l.q
