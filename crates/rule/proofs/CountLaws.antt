-- How many members a set has: a set that grows gains one at least.
-- Assumes nothing.
use mathlib.Core.Path.{◌≡◌}
use mathlib.Core.Bool.{true}
use mathlib.Core.Logic.{⊎_elim}
use Prim.Native.Nat.{ℕ, zero, suc, ◌+◌, ◌^◌, ◌≤◌, ◌<◌}
use native.Mathlib.Omega.{arith}
use Rattle.rule.specs.Sets.{bit, has}
use Rattle.rule.proofs.SetLaws.{below_or, bit_cases, has_of_bit, bit_of_has, bits_same}

-- how many of the states below i are members of x
unfoldable pub count : ℕ → ℕ → ℕ
count x zero = zero
count x (suc i) = bit x i + count x i

-- every member of x is one of y
abbrev pub Within : ℕ → ℕ → Type 0
Within x y = (s : ℕ) → has x s ≡ true → has y s ≡ true

bit_le : (x y : ℕ) → Within x y → (s : ℕ) → bit x s ≤ bit y s
bit_le x y sub s = ⊎_elim (λ z. omega arith) (λ o. omega (arith, bit_of_has y s (sub s (has_of_bit x s o)))) (bit_cases x s)

pub count_le : (x i : ℕ) → count x i ≤ i
unfolding count
count_le x zero = omega arith
count_le x (suc i) = ⊎_elim (λ z. omega (arith, count_le x i)) (λ o. omega (arith, count_le x i)) (bit_cases x i)

pub count_one : (x q i : ℕ) → has x q ≡ true → q < i → 1 ≤ count x i
unfolding count
count_one x q zero m h = absurd (omega arith)
count_one x q (suc i) m h =
    below_or q i
    (λ l. omega (arith, count_one x q i m l))
    (λ l. let e : q ≡ i = omega arith in omega (arith, bit_of_has x i (rw e at m)))

module _ (x y : ℕ) (sub : Within x y) where
  pub count_mono : (i : ℕ) → count x i ≤ count y i
  unfolding count
  count_mono zero = omega arith
  count_mono (suc i) = omega (arith, count_mono i, bit_le x y sub i)

  -- a subset with no fewer members is the whole
  count_same : (i : ℕ) → count y i ≤ count x i → (s : ℕ) → s < i → bit x s ≡ bit y s
  unfolding count
  count_same zero le s h = absurd (omega arith)
  count_same (suc i) le s h =
      below_or s i
      (λ l. count_same i (omega (arith, bit_le x y sub i)) s l)
      (λ l. let e : s ≡ i = omega arith in rw e (omega (arith, bit_le x y sub i, count_mono i)))

  pub grows : (n : ℕ) → x < 2 ^ n → y < 2 ^ n → (x ≡ y → ⊥) → count x n < count y n
  grows n hx hy d =
      below_or (count x n) (count y n)
      (λ l. l)
      (λ l. absurd (d (bits_same n x y hx hy (count_same n l))))
