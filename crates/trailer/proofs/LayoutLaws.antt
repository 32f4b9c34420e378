-- Laws of the trailer's layout: its length, and a distance by its two bytes.
-- Assumes nothing.
use mathlib.Core.Path.{◌≡◌, refl, ap, ◌∙◌}
use mathlib.Core.List.{List, [], ◌∷◌}
use Prim.Native.Nat.{ℕ, ◌+◌, ◌*◌}
use native.Mathlib.Omega.{arith}
use lib.ListN.{length, get_or, take, drop}
use lib.Seq.{get_or-drop}
use Rattle.octets.specs.Numbers.{value_of, digits}
use Rattle.rule.specs.declared.Shape.{Shape}
use Rattle.trailer.specs.Layout.{trailer_out}

pub length_trailer_out : (s : Shape) → length (trailer_out s) ≡ 12
unfolding trailer_out digits
length_trailer_out s = refl

-- the number that the first two bytes are; of a shorter list, with 0 for what is missing
two_bytes : (l : List ℕ) → get_or l 0 0 + 256 * get_or l 1 0 ≡ value_of (take 2 l)
unfolding value_of
two_bytes [] = refl
two_bytes (a ∷ []) = refl
two_bytes (a ∷ b ∷ l) = omega arith

-- a distance, from the bytes i and i + 1
pub distance_is : (l : List ℕ) (i : ℕ) {low high : ℕ} → low ≡ get_or l i 0 → high ≡ get_or l (i + 1) 0 → low + 256 * high ≡ value_of (take 2 (drop i l))
distance_is l i a b =
    let z : i + 0 ≡ i = omega arith in
    let first : get_or (drop i l) 0 0 ≡ get_or l i 0 = get_or-drop i l 0 0 ∙ ap (λ (k : ℕ). get_or l k 0) z in
    omega (arith, first, get_or-drop i l 1 0, two_bytes (drop i l))
