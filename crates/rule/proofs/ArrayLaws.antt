-- Laws of arrays that are filled from the front: the loop that fills one, and what stands in it.
-- Assumes nothing.
use Prim.Native.Nat.{ℕ, zero, suc, ◌+◌, ◌≤◌, ◌<◌}
use native.Mathlib.Decide.{ℕ_discrete}
use native.Mathlib.Omega.{arith}
use native.Mathlib.Numerals.{add-one}
use mathlib.Core.Path.{◌≡◌, refl, sym, ap, ◌∙◌}
use mathlib.Core.List.{List}
use lib.ListN.{length, get_or, set, length-set}
use lib.Seq.{set_out, get_or-set_same, get_or-set_other}
use Rattle.rule.specs.Arrays.{filled}

module _ {A : Type 0} (f : ℕ → A) (l : List A) where
  -- the loop's steps: nothing yet, one place more, a place past the end, all
  pub filled_none : l ≡ filled f l 0
  unfolding filled
  filled_none = refl

  pub filled_more : (a r : List A) (n : ℕ) (x : A) → a ≡ filled f l n → x ≡ f n → r ≡ set a n x → r ≡ filled f l (n + 1)
  unfolding filled
  filled_more a r n x is at put = rw add-one (cc)

  pub filled_past : (a r : List A) (n i : ℕ) → a ≡ filled f l n → length a ≡ i → i ≤ n → r ≡ a → r ≡ filled f l (n + 1)
  unfolding filled
  filled_past a r n i is long past same = rw add-one (same ∙ sym (set_out a n (f n) (omega arith)) ∙ ap (λ (b : List A). set b n (f n)) is)

  pub filled_all : (a : List A) (i n : ℕ) → a ≡ filled f l i → i ≤ n → n ≤ i → a ≡ filled f l n
  filled_all a i n is le ge = let q : i ≡ n = omega arith in is ∙ ap (filled f l) q

  pub length_filled : (n : ℕ) → length (filled f l n) ≡ length l
  unfolding filled
  length_filled zero = refl
  length_filled (suc n) = length-set (filled f l n) n _ ∙ length_filled n

  -- what stands at a place
  pub filled_at : (n i : ℕ) (d : A) → i < n → i < length l → get_or (filled f l n) i d ≡ f i
  unfolding filled
  filled_at zero i d h b = absurd (omega arith)
  filled_at (suc n) i d h b =
      elim (ℕ_discrete i n) [
        | yes e ↦ rw e (get_or-set_same (filled f l n) n (f n) d (rw (length_filled n, ← e) b))
        | no e ↦
            get_or-set_other (filled f l n) n i (f n) d e
            ∙ filled_at n i d (omega arith) b
      ]
