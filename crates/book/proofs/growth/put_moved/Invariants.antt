-- What `put_moved` keeps at each turn: after i entries they stand at the front, their distances grown. Assumes nothing.
use Prim.Native.Nat.{◌*◌}
use mathlib.Core.Path.{◌≡◌}
use mathlib.Core.List.{◌++◌}
use lib.ListN.{drop}
use Rattle.book.specs.Adding.{moved_of}
use Rattle.book.proofs.growth.put_moved.Given as goal

abbrev pub invariant-loop-i : goal.invariant-loop-i
invariant-loop-i l = l.out ≡ moved_of l.old.book.now l.old.start l.grow l.i ++ drop (8 * l.i) l.initial.out
