-- Laws of the smallest value, as code comes to it. Assumes nothing.
use Prim.Native.Nat.{ℕ}
use mathlib.Core.Path.{◌≡◌, refl, ◌∙◌}
use mathlib.Core.List.{List, [], ◌∷◌}
use Rattle.std.specs.List.{fold}
use Rattle.std.specs.Ordering.{ord_min}
use Rattle.rule.specs.contracts.OperationOrd.TheImpl.{ghosts}
use Rattle.rule.specs.Operations.{smaller, value_of, smallest_of}
use Rattle.rule.specs.declared.Pair.{Pair}
use Rattle.rule.specs.declared.Operation.{Operation}
use Rattle.rule.specs.declared.Operation.TheVariants.{Halt, Store, Dump}

-- the derived order is halt < store < dump
min_smaller : (a b : Operation) → ord_min ghosts.cmp a b ≡ smaller a b
min_smaller Halt Halt = refl
min_smaller Halt Store = refl
min_smaller Halt Dump = refl
min_smaller Store Halt = refl
min_smaller Store Store = refl
min_smaller Store Dump = refl
min_smaller Dump Halt = refl
min_smaller Dump Store = refl
min_smaller Dump Dump = refl

smaller_assoc : (a b c : Operation) → smaller (smaller a b) c ≡ smaller a (smaller b c)
smaller_assoc Halt b c = refl
smaller_assoc Store Halt c = refl
smaller_assoc Store Store Halt = refl
smaller_assoc Store Store Store = refl
smaller_assoc Store Store Dump = refl
smaller_assoc Store Dump c = refl
smaller_assoc Dump b c = refl

smaller_dump : (a : Operation) → a ≡ smaller a Dump
smaller_dump Halt = refl
smaller_dump Store = refl
smaller_dump Dump = refl

-- the smallest value, one pair at a time
module _ (reached t : ℕ) where
  abbrev pub with_value : Operation → Pair → Operation
  with_value least p = ord_min ghosts.cmp least (value_of p reached t)

  smallest_from : (ps : List Pair) (a : Operation) → fold with_value a ps ≡ smaller a (smallest_of ps reached t)
  unfolding smallest_of
  smallest_from [] a = smaller_dump a
  smallest_from (p ∷ ps) a =
      smallest_from ps (with_value a p)
      ∙ rw (min_smaller a (value_of p reached t)) (smaller_assoc a (value_of p reached t) (smallest_of ps reached t))

  pub smallest_all : (ps : List Pair) (least : Operation) → least ≡ fold with_value Dump ps → least ≡ smallest_of ps reached t
  smallest_all ps least is = is ∙ smallest_from ps Dump
