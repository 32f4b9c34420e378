-- What `rulefile::layout::fill_pairs` keeps at each turn: the pairs passed stand in front of empty ones.
-- Assumes nothing.
use Rattle.std.proofs.Common.{◌≡◌, ◌*◌, ◌≤◌, length, drop}
use Rattle.rule.specs.Drawing.{no_pair, padded}
use Rattle.rulefile.specs.Layout.{up_to, pair_in}
use Rattle.rulefile.proofs.layout.fill_pairs.Given as goal

abbrev pub invariant-loop-i : goal.invariant-loop-i
invariant-loop-i l =
    let it = l.i-iterator in
    record {
      whole : it.iter.size ≡ 16;
      left : it.iter.rest.now ≡ drop (16 * it.count) l.bytes;
      within : 16 * it.count ≤ length l.bytes;
      passed : l.pairs ≡ padded 8 no_pair (up_to (pair_in l.bytes) it.count);
    }
