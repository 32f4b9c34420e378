-- What `fills` keeps at each turn: the walk from here comes to what the walk from the start comes to. Assumes nothing.
use Prim.Native.Nat.{◌+◌, ◌-◌, ◌*◌, ◌≤◌}
use mathlib.Core.Path.{◌≡◌}
use lib.ListN.{length}
use Rattle.book.specs.Directory.{filled}
use Rattle.book.proofs.directory.Directory.fills.Given as goal

abbrev pub invariant-loop-entry : goal.invariant-loop-entry
invariant-loop-entry l =
    let d = l.self in
    (l.start ≤ 65536 * l.entry-index)
    × (filled d.book.now d.start (length d.entries.now - l.entry-index) (d.start + 8 * l.entry-index) l.start
    ≡ filled d.book.now d.start (length d.entries.now) d.start 0)
