-- The loops of src/ways.rt, one step at a time.
-- Assumes nothing.
use mathlib.Core.Path.{◌≡◌, refl, sym, ◌∙◌}
use mathlib.Core.Bool.{Bool, true, false, not}
use mathlib.Core.List.{List, ◌++◌, append-nil}
use Prim.Native.Nat.{ℕ, suc, ◌+◌, ◌-◌, ◌*◌, ◌^◌, ◌≤◌, ◌<◌}
use native.Mathlib.Omega.{arith}
use native.Mathlib.Numerals.{add-one}
use lib.Bits.{bit_and}
use lib.ListN.{length, get_or, set, take, replicate}
use lib.Seq.{take-suc-set, append_snoc, take_all}
use borrow.Author.Tests.{not-true, not-false, lt-ltb, le-ltb}
use Rattle.rule.specs.Sets.{has, including, meets}
use Rattle.rule.specs.Reach.{target, with_moves}
use Rattle.rule.specs.Ways.{event_into, nearer_below}
use Rattle.rule.proofs.ArrayLaws.{length_filled, filled_at}
use Rattle.rule.proofs.BoolLaws.{clash}
use Rattle.rule.proofs.SetLaws.{below_or, meets_iff, and_none, and_some}
use Rattle.rule.proofs.ShortestLaws.{below_same, row_meets, meets_row}
use Rattle.why.specs.Steps.{rows_of, steps_below, followed}

-- where every entry is below m, so is every next state
pub moved_in : (table : List ℕ) (k m s e t : ℕ) → ((i : ℕ) → get_or table i 0 < m) → t ≡ target table k s e → t < m
unfolding target
moved_in table k m s e t low q = rw q (low (s * k + e))

-- following the steps
module _ (table : List ℕ) (k : ℕ) (l : List ℕ) where
  pub follow_none : (n s : ℕ) (out : List ℕ) → take 0 out ++ followed (target table k) l (n - 0) s ≡ followed (target table k) l n s
  follow_none n s out = let q : n - 0 ≡ n = omega arith in rw q

  pub follow_more : (out w : List ℕ) (n i s t : ℕ) → length out ≡ n → i < n → t ≡ target table k s (get_or l s 0)
      → take i out ++ followed (target table k) l (n - i) s ≡ w
      → take (i + 1) (set out i (get_or l s 0)) ++ followed (target table k) l (n - (i + 1)) t ≡ w
  unfolding followed
  follow_more out w n i s t e h it q =
      let p : n - i ≡ suc (n - suc i) = omega arith in
      rw (add-one, take-suc-set out i (get_or l s 0) (omega arith), it)
      (append_snoc (take i out) (get_or l s 0) _ ∙ rw p at q)

  pub follow_all : (out w : List ℕ) (n i s : ℕ) → length out ≡ n → n ≤ i
      → take i out ++ followed (target table k) l (n - i) s ≡ w → out ≡ w
  unfolding followed
  follow_all out w n i s e h q =
      let p : n - i ≡ 0 = omega arith in
      sym (append-nil out) ∙ rw (p, take_all i out (omega arith)) at q

-- the array of rows has a place for every state
pub rows_long : (table : List ℕ) (n k s : ℕ) (rows : List ℕ) → rows ≡ rows_of table k (replicate 64 0) n → n ≤ 64 → s < n → s < length rows
rows_long table n k s rows are few h = rw are (omega (arith, length_filled (λ s. with_moves table k s 0 k) (replicate 64 0) n))

meets_both : (x y : ℕ) → meets x y ≡ true → meets y x ≡ true
meets_both x y q = let w = (meets_iff x y).0 q in (meets_iff y x).1 (w.0, w.1, w.3, w.2)

-- one round over the states: a member is passed over, any other is put in where its row meets x
module _ (table : List ℕ) (n k x : ℕ) where
  abbrev T : ℕ → ℕ → ℕ
  T = target table k

  pub nearer_none : x ≡ nearer_below T k x 0
  unfolding nearer_below
  nearer_none = refl

  pub nearer_member : (s out : ℕ) (b : Bool) → out ≡ nearer_below T k x s → b ≡ has x s → not b ≡ false → out ≡ nearer_below T k x (s + 1)
  nearer_member s out b io ib f = rw add-one (io ∙ sym (below_same T k x s (rw ib at (not-false b f))))

  pub nearer_all : (s out : ℕ) → s ≤ n → n ≤ s → out ≡ nearer_below T k x s → out ≡ nearer_below T k x n
  nearer_all s out le ge io = let q : s ≡ n = omega arith in cc

  module _ (rows : List ℕ) (s row : ℕ) (are : rows ≡ rows_of table k (replicate 64 0) n) (below : s < n) (few : n ≤ 64)
      (fits : x < 2 ^ 64) (at : row ≡ get_or rows s 0) where
    row_is : row ≡ with_moves table k s 0 k
    row_is = at ∙ rw are (filled_at (λ s. with_moves table k s 0 k) (replicate 64 0) n s 0 below (omega arith))

    row_in : (bit_and x row ≡ 0 → ⊥) → event_into T k x s < k
    row_in d = meets_row table k s x fits (meets_both x (with_moves table k s 0 k) (rw row_is at (and_some x row fits d)))

    row_out : bit_and x row ≡ 0 → k ≤ event_into T k x s
    row_out z =
        below_or (event_into T k x s) k
        (λ l. clash (meets_both (with_moves table k s 0 k) x (row_meets table k s x fits l)) (rw row_is at (and_none x row z))) (λ l. l)

    pub nearer_new : (out r : ℕ) → out ≡ nearer_below T k x s → (bit_and x row ≡ 0 → ⊥) → r ≡ including out s → r ≡ nearer_below T k x (s + 1)
    unfolding nearer_below
    nearer_new out r io d ir = rw (add-one, lt-ltb _ k (row_in d)) (cc)

    pub nearer_not : (out : ℕ) → out ≡ nearer_below T k x s → bit_and x row ≡ 0 → out ≡ nearer_below T k x (s + 1)
    unfolding nearer_below
    nearer_not out io z = rw (add-one, le-ltb _ k (row_out z)) io

    pub steps_new : (l out : List ℕ) (b : Bool) (e : ℕ) → out ≡ steps_below T k x l s → b ≡ has x s → not b ≡ true → e ≡ event_into T k x s
        → (bit_and x row ≡ 0 → ⊥) → set out s e ≡ steps_below T k x l (s + 1)
    unfolding steps_below
    steps_new l out b e io ib f ie d = rw (add-one, ← ib, not-true b f, lt-ltb _ k (row_in d)) (cc)

    pub steps_not : (l out : List ℕ) (b : Bool) → out ≡ steps_below T k x l s → b ≡ has x s → not b ≡ true → bit_and x row ≡ 0
        → out ≡ steps_below T k x l (s + 1)
    unfolding steps_below
    steps_not l out b io ib f z = rw (add-one, ← ib, not-true b f, le-ltb _ k (row_out z)) io

  module _ (l : List ℕ) where
    pub steps_none : l ≡ steps_below T k x l 0
    unfolding steps_below
    steps_none = refl

    pub steps_member : (s : ℕ) (out : List ℕ) (b : Bool) → out ≡ steps_below T k x l s → b ≡ has x s → not b ≡ false → out ≡ steps_below T k x l (s + 1)
    unfolding steps_below
    steps_member s out b io ib f = rw (add-one, ← ib, not-false b f) io

    pub steps_all : (s : ℕ) (out : List ℕ) → s ≤ n → n ≤ s → out ≡ steps_below T k x l s → out ≡ steps_below T k x l n
    steps_all s out le ge io = let q : s ≡ n = omega arith in cc
