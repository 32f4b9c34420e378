-- `rulefile::layout::fill_pairs` meets its contract: one pair more stands in front of empty ones.
-- Assumes nothing.
use Rattle.std.proofs.Common.{◌≡◌, ℕ, ◌+◌, ◌*◌, ◌≤◌, List, ◌++◌, length, take, drop, sym, ap, ◌∙◌, add-one, arith, length-append, length-drop, length-take}
use Rattle.std.proofs.lemmas.List.{take-append-le}
use lib.Seq.{drop-drop, drop_at, drop-append-le, take_all}
use Rattle.octets.specs.Numbers.{value_of}
use Rattle.rule.specs.Drawing.{no_pair}
use Rattle.rulefile.specs.Layout.{up_to, pair_in}
use Rattle.rulefile.proofs.ListLaws.{length_up_to, padded_more}
use Rattle.rulefile.proofs.layout.fill_pairs.Goals as goal

-- sixteen bytes at the front of what is left are one pair
module _ (s : List ℕ) (n : ℕ) (chunk rest : List ℕ) (cut : drop (16 * n) s ≡ chunk ++ rest) (whole : length chunk ≡ 16) where
  left : rest ≡ drop (16 * (n + 1)) s
  left =
      let e : 16 * (n + 1) ≡ 16 * n + 16 = omega arith in
      rw (e, ← drop-drop 16 (16 * n) s, cut) (sym (drop_at chunk rest 16 whole))

  within : 16 * (n + 1) ≤ length s
  within = omega (arith, ap length cut, length-append chunk rest, length-drop (16 * n) s)

  one_pair : record { r = value_of (take 8 (take 8 chunk)); p = value_of (take 8 (drop 8 chunk)) } ≡ pair_in s n
  one_pair =
      let long : 8 ≤ length chunk = omega arith in
      let half : length (take 8 chunk) ≤ 8 = omega (arith, length-take 8 chunk) in
      let other : 8 ≤ length (drop 8 chunk) = omega (arith, length-drop 8 chunk) in
      rw (← drop-drop 8 (16 * n) s, cut, take-append-le, drop-append-le, take-append-le, take_all 8 (take 8 chunk) half)

pub loop-i-preserved : goal.loop-i-preserved
unfolding up_to
loop-i-preserved c =
    let i = c.loop-i.invariant in
    let n = c.loop-i.i-iterator.count in
    let s = c.args.bytes.now in
    let e = c.in-Some.ensures.steps in
    let cut = sym i.left ∙ e.0.1.0 in
    let whole = e.0.1.1 ∙ i.whole in
    let pair : record { r = c.number.result; p = c.number-in-loop-i.result } ≡ pair_in s n =
    rw (c.number.ensures, c.number-in-loop-i.ensures, c.split_at.ensures.front, c.split_at.ensures.back) (one_pair s n _ _ cut whole) in
    record {
      whole = e.0.0 ∙ i.whole;
      left = rw e.2 (left s n _ _ cut whole);
      within = rw e.2 (within s n _ _ cut whole);
      passed = rw (i.passed, e.1, e.2, add-one, pair)
          (padded_more 8 no_pair (pair_in s n) (up_to (pair_in s) n) n (length_up_to (pair_in s) n) (omega (arith, within s n _ _ cut whole)));
    }
