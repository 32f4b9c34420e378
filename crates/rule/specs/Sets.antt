-- Sets of states. A set is a number: state s is a member when bit s is 1.
-- Assumes nothing.
use Rattle.std.specs.Prelude.{ℕ, zero, suc, ◌+◌, ◌/◌, ◌%◌, ◌^◌, ◌<◌, ◌≡◌, Bool, false, cond, not, ◌&&◌, ◌||◌, eqb, ltb}

-- bit s of x, 0 or 1
abbrev pub bit : ℕ → ℕ → ℕ
bit x s = x / 2 ^ s % 2

-- whether s is a member of x
unfoldable pub has : ℕ → ℕ → Bool
has x s = eqb (bit x s) 1

-- the states that a set of 64 bits can hold are members of x exactly where p holds of them
abbrev pub Members : ℕ → (ℕ → Bool) → Type 0
Members x p = (s : ℕ) → s < 64 → has x s ≡ p s

-- x with s
unfoldable pub insert : ℕ → ℕ → ℕ
insert x s = cond (has x s) x (x + 2 ^ s)

-- x with s, where s is a state that a set of 64 bits can hold
unfoldable pub including : ℕ → ℕ → ℕ
including x s = cond (ltb s 64) (insert x s) x

-- the states below n of which p holds
unfoldable pub those : (ℕ → Bool) → ℕ → ℕ
those p zero = 0
those p (suc n) = cond (p n) (including (those p n) n) (those p n)

-- whether x and y have a member in common below i
unfoldable pub meets_below : ℕ → ℕ → ℕ → Bool
meets_below x y zero = false
meets_below x y (suc i) = (has x i && has y i) || meets_below x y i

-- whether x and y have a member in common
unfoldable pub meets : ℕ → ℕ → Bool
meets x y = meets_below x y 64

-- whether x has no member
unfoldable pub is_empty : ℕ → Bool
is_empty x = eqb x 0

-- whether x names a state that is n or more
unfoldable pub names_past : ℕ → ℕ → Bool
names_past n x = not (is_empty (x / 2 ^ n))
