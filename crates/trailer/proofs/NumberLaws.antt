-- The numbers that the checks of a shape and of a whole trailer give.
-- Assumes nothing.
use Prim.Native.Nat.{ℕ}
use mathlib.Core.Path.{refl}
use mathlib.Core.Bool.{not}
use Rattle.rule.specs.Refusals.{first_of}
use Rattle.rule.specs.declared.Shape.{Shape}
use Rattle.rule.specs.declared.Refusal.TheVariants.{Class, Range, Distance}
use Rattle.rule.proofs.NumberLaws.{Gives, test_gives, first_gives, end, and}
use Rattle.trailer.specs.Conditions.{classed, ranged, placed, shape_conditions, shape_order, head_conditions, head_order}
use Rattle.trailer.specs.declared.Trailer.{Trailer}

pub shape_gives : (s : Shape) → Gives shape_order (first_of (shape_conditions s))
shape_gives s = first_gives (and (test_gives (not (classed s)) Class refl) (and (test_gives (not (ranged s)) Range refl) end))

pub head_gives : (t : Trailer) (size : ℕ) → Gives head_order (first_of (head_conditions t size))
head_gives t size =
    first_gives
    (and (test_gives (not (classed t.shape)) Class refl)
    (and (test_gives (not (ranged t.shape)) Range refl)
    (and (test_gives (not (placed t size)) Distance refl) end)))
