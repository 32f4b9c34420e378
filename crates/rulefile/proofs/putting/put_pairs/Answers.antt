-- `rulefile::putting::put_pairs` meets its contract: the pairs passed stand in front of what was there.
-- Assumes nothing.
use borrow.Author.Rules.{rules}
use Prim.Native.Nat.{◌+◌, ◌-◌, ◌*◌}
use mathlib.Core.Path.{◌≡◌}
use mathlib.Core.List.{◌++◌}
use native.Mathlib.Omega.{arith}
use native.Mathlib.Numerals.{add-one}
use lib.ListN.{drop, get_or}
use borrow.Rule.Slice.PartMut.{put_mid}
use Rattle.octets.proofs.ListLaws.{part_more}
use Rattle.rule.specs.Drawing.{no_pair}
use Rattle.rulefile.specs.Layout.{flat_up_to, pairs_out, pair_out}
use Rattle.rulefile.proofs.LayoutLaws.{length_pair_out, length_pairs_out}
use Rattle.rulefile.proofs.putting.put_pairs.Goals as goal

pub loop-i-preserved : goal.loop-i-preserved
unfolding flat_up_to
loop-i-preserved c =
    let l = c.loop-i in
    let a = c.args in
    let k : 16 * l.i + 16 - 16 * l.i ≡ 16 = omega arith in
    let n : 16 * (l.i + 1) ≡ 16 * l.i + 16 = omega arith in
    let q = pair_out (get_or a.pairs.now l.i no_pair) in
    let more : put_mid (16 * l.i) 16 l.out q ≡ (pairs_out a.pairs.now l.i ++ q) ++ drop (16 * l.i + 16) a.out.now
    = rw l.invariant (part_more (pairs_out a.pairs.now l.i) q a.out.now (16 * l.i) 16 (length_pairs_out a.pairs.now l.i) (length_pair_out _)) in
    let at : c.unwrap_or-pair.result ≡ get_or a.pairs.now l.i no_pair = search rules in
    rw (k, n, add-one, c.put_pair.ensures, at) more
