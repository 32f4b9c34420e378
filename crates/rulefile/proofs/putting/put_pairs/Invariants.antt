-- What `rulefile::putting::put_pairs` keeps at each turn: the pairs passed stand in front of what was there.
-- Assumes nothing.
use Prim.Native.Nat.{◌*◌}
use mathlib.Core.Path.{◌≡◌}
use mathlib.Core.List.{◌++◌}
use lib.ListN.{drop}
use Rattle.rulefile.specs.Layout.{pairs_out}
use Rattle.rulefile.proofs.putting.put_pairs.Given as goal

abbrev pub invariant-loop-i : goal.invariant-loop-i
invariant-loop-i l = l.out ≡ pairs_out l.pairs l.i ++ drop (16 * l.i) l.initial.out
