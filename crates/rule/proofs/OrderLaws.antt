-- The order halt < store < dump: the greater of two operations is their supremum, the smaller their infimum. Assumes nothing.
use Prim.Native.Nat.{ℕ, zero, suc, ◌<◌, max, min}
use native.Mathlib.Omega.{arith}
use mathlib.Core.Path.{◌≡◌, refl}
use mathlib.Core.List.{List, [], ◌∷◌}
use lib.ListN.{length, get_or}
use Rattle.rule.specs.Drawing.{no_pair}
use Rattle.rule.specs.Operations.{mark_of, greater, smaller, value_of, smallest_of}
use Rattle.rule.specs.Published.{◌⊑◌}
use Rattle.rule.specs.declared.Pair.{Pair}
use Rattle.rule.specs.declared.Operation.{Operation}
use Rattle.rule.specs.declared.Operation.TheVariants.{Halt, Store, Dump}

pub same : (a b : Operation) → a ⊑ b → b ⊑ a → a ≡ b
same Halt Halt p q = refl
same Store Store p q = refl
same Dump Dump p q = refl
same Halt Store p q = absurd (omega arith)
same Halt Dump p q = absurd (omega arith)
same Store Halt p q = absurd (omega arith)
same Store Dump p q = absurd (omega arith)
same Dump Halt p q = absurd (omega arith)
same Dump Store p q = absurd (omega arith)

pub below_dump : (a : Operation) → a ⊑ Dump
below_dump Halt = omega arith
below_dump Store = omega arith
below_dump Dump = omega arith

-- the greater of two as numbers, and the smaller
mark_greater : (a b : Operation) → mark_of (greater a b) ≡ max (mark_of a) (mark_of b)
mark_greater Halt b = omega arith
mark_greater Store Halt = refl
mark_greater Store Store = refl
mark_greater Store Dump = refl
mark_greater Dump b = omega (arith, below_dump b)

mark_smaller : (a b : Operation) → mark_of (smaller a b) ≡ min (mark_of a) (mark_of b)
mark_smaller Halt b = omega arith
mark_smaller Store Halt = refl
mark_smaller Store Store = refl
mark_smaller Store Dump = refl
mark_smaller Dump b = omega (arith, below_dump b)

module _ (a b : Operation) where
  pub left_below : a ⊑ greater a b
  left_below = omega (arith, mark_greater a b)

  pub right_below : b ⊑ greater a b
  right_below = omega (arith, mark_greater a b)

  pub greater_least : (c : Operation) → a ⊑ c → b ⊑ c → greater a b ⊑ c
  greater_least c p q = omega (arith, mark_greater a b)

  pub below_left : smaller a b ⊑ a
  below_left = omega (arith, mark_smaller a b)

  pub below_right : smaller a b ⊑ b
  below_right = omega (arith, mark_smaller a b)

  pub smaller_greatest : (c : Operation) → c ⊑ a → c ⊑ b → c ⊑ smaller a b
  smaller_greatest c p q = omega (arith, mark_smaller a b)

-- the smallest value over the pairs is their infimum

module _ (reached t : ℕ) where
  pub smallest_lower : (ps : List Pair) (i : ℕ) → i < length ps → smallest_of ps reached t ⊑ value_of (get_or ps i no_pair) reached t
  unfolding smallest_of
  smallest_lower [] i h = absurd (omega arith)
  smallest_lower (p ∷ ps) zero h = below_left (value_of p reached t) (smallest_of ps reached t)
  smallest_lower (p ∷ ps) (suc i) h =
      omega (arith, below_right (value_of p reached t) (smallest_of ps reached t), smallest_lower ps i (omega arith))

  pub smallest_greatest : (ps : List Pair) (c : Operation) → ((i : ℕ) → i < length ps → c ⊑ value_of (get_or ps i no_pair) reached t)
      → c ⊑ smallest_of ps reached t
  unfolding smallest_of
  smallest_greatest [] c all = below_dump c
  smallest_greatest (p ∷ ps) c all =
      smaller_greatest (value_of p reached t) (smallest_of ps reached t) c (all 0 (omega arith))
      (smallest_greatest ps c (λ i h. all (suc i) (omega arith)))
