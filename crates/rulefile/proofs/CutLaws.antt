-- Parts of the lists that a rule file is made of: counted from the end, and piece by piece.
-- Assumes nothing.
use Prim.Native.Nat.{ℕ, zero, suc, ◌+◌, ◌-◌, ◌*◌, ◌≤◌, ◌<◌}
use native.Mathlib.Omega.{arith}
use native.Mathlib.Nat.{eq-or-lt_of_le, not-suc-le-zero, le_of_suc-le-suc, mul-zero, mul-suc, mul-le-mul_left}
use mathlib.Core.Path.{◌≡◌, refl, sym, ap, ◌∙◌}
use mathlib.Core.Logic.{⊎_elim}
use mathlib.Core.List.{List, [], ◌++◌, append_assoc, append-nil}
use lib.ListN.{length, get_or, take, drop, length-append, take-append-drop}
use lib.Seq.{take-suc, take-add, drop_at, drop-drop, drop-append-le}
use Rattle.rulefile.specs.Layout.{up_to, flat_up_to}
use Rattle.rulefile.proofs.ListLaws.{length_flat_up_to}

module _ {A : Type 0} where
  -- the last elements, so many of them
  pub drop_end : (x y : List A) (n : ℕ) → length y ≡ n → drop (length (x ++ y) - n) (x ++ y) ≡ y
  drop_end x y n e = drop_at x y (length (x ++ y) - n) (rw (length-append x y) (omega arith))

  -- n elements from a on, and then the rest
  pub part_on : (n a : ℕ) (l : List A) → take n (drop a l) ++ drop (a + n) l ≡ drop a l
  part_on n a l = rw (← drop-drop n a l) (take-append-drop n (drop a l))

  -- the same, counted from the end
  pub part_on_back : (near n : ℕ) (l : List A) → near + n ≤ length l
      → take n (drop (length l - (near + n)) l) ++ drop (length l - near) l ≡ drop (length l - (near + n)) l
  part_on_back near n l h =
      let a = length l - (near + n) in
      let e : length l - near ≡ a + n = omega arith in
      ap (λ (i : ℕ). take n (drop a l) ++ drop i l) e ∙ part_on n a l

  -- a list that has f 0, f 1, .. at its front
  pub up_to_take : (f : ℕ → A) (l : List A) (d : A) (n : ℕ) → n ≤ length l → ((i : ℕ) → i < n → f i ≡ get_or l i d) → up_to f n ≡ take n l
  unfolding up_to
  up_to_take f l d zero h e = refl
  up_to_take f l d (suc n) h e = rw (up_to_take f l d n (omega arith) (λ i k. e i (omega arith)), e n (omega arith)) (sym (take-suc l n d h))

  -- a list cut in pieces of k
  pub flat_take : (k : ℕ) (l : List A) (n : ℕ) → flat_up_to (λ i. take k (drop (k * i) l)) n ≡ take (k * n) l
  unfolding flat_up_to
  flat_take k l zero = rw mul-zero
  flat_take k l (suc n) = rw (flat_take k l n, mul-suc) (sym (take-add (k * n) k l))

  -- piece i of pieces of k stands at k * i
  pub flat_at : (k : ℕ) (f : ℕ → List A) → ((j : ℕ) → length (f j) ≡ k) → (n i : ℕ) → i < n
      → (rest : List A) × (drop (k * i) (flat_up_to f n) ≡ f i ++ rest)
  unfolding flat_up_to
  flat_at k f e zero i h = absurd (not-suc-le-zero h)
  flat_at k f e (suc n) i h =
      ⊎_elim
      (λ p. ([], rw p (drop_at (flat_up_to f n) (f n) (k * n) (length_flat_up_to k f n e) ∙ sym (append-nil (f n)))))
      (λ l.
      let r = flat_at k f e n i l in
      let in_front : k * i ≤ length (flat_up_to f n) = rw (length_flat_up_to k f n e) (mul-le-mul_left k (omega arith)) in
      (r.0 ++ f n, drop-append-le (k * i) (flat_up_to f n) (f n) in_front ∙ rw r.1 (append_assoc (f i) r.0 (f n))))
      (eq-or-lt_of_le (le_of_suc-le-suc h))
