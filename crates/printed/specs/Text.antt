-- Text as bytes: numbers in decimal, and lines of words.
-- Assumes nothing.
use Rattle.std.specs.Prelude.{ℕ, ◌+◌, ◌/◌, ◌%◌, cond, List, [], ◌∷◌, ◌++◌, ltb}

-- a digit below 10
abbrev pub digit : ℕ → ℕ
digit n = 48 + n

-- a number below 1,000 in decimal, with no zero before it
unfoldable pub decimal : ℕ → List ℕ
decimal n =
    cond (ltb n 10) (digit n ∷ [])
    (cond (ltb n 100) (digit (n / 10) ∷ digit (n % 10) ∷ [])
    (digit (n / 100) ∷ digit (n / 10 % 10) ∷ digit (n % 10) ∷ []))

-- the rest of a line: each word after a space, and then byte 10
unfoldable pub rest : List (List ℕ) → List ℕ
rest [] = 10 ∷ []
rest (w ∷ ws) = (32 ∷ w) ++ rest ws

-- a line: a word, and its rest
unfoldable pub line : List ℕ → List (List ℕ) → List ℕ
line first words = first ++ rest words
