-- Little-endian numbers of any width.
-- Assumes nothing.
use Rattle.std.specs.Prelude.{ℕ, zero, suc, ◌+◌, ◌*◌, ◌/◌, ◌%◌, ◌<◌, List, [], ◌∷◌, get_or}

-- every element is a byte
abbrev pub Bytes : List ℕ → Type 0
Bytes l = (i : ℕ) → get_or l i 0 < 256

-- the number that the bytes are, the lowest first
unfoldable pub value_of : List ℕ → ℕ
value_of [] = 0
value_of (b ∷ bs) = b + 256 * value_of bs

-- the lowest bytes of x, so many of them, the lowest first
unfoldable pub digits : ℕ → ℕ → List ℕ
digits zero x = []
digits (suc width) x = (x % 256) ∷ digits width (x / 256)
