-- What `reach::Moves::reached` keeps at each turn: what is reached from here in the moves left is what is reached from the start in all of them.
-- Assumes nothing.
use mathlib.Core.Path.{◌≡◌}
use Prim.Native.Nat.{◌-◌, ◌^◌, ◌<◌}
use Rattle.rule.specs.Reach.{moved_below, moved_set, spread}
use Rattle.reach.proofs.Moves.reached.Given as goal

abbrev pub invariant-loop-moves : goal.invariant-loop-moves
invariant-loop-moves l =
    let t = l.self.table.now in
    let n = l.self.states in
    let k = l.self.events in
    (l.seen < 2 ^ 64) × (moved_below t k l.fresh l.seen n ≡ moved_set t n k l.seen)
    × (spread t n k l.seen (n - l._moves) ≡ spread t n k l.initial.seen (n - 1))
