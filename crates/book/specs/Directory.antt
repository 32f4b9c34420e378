-- What stands in the bytes of a book: its directory, whether the rules fill it, and the list that it is the book of.
-- Assumes nothing.
use Rattle.std.specs.Prelude.{ℕ, zero, suc, ◌+◌, ◌-◌, ◌*◌, ◌<◌, ◌≡◌, Bool, ◌&&◌, List, [], ◌∷◌, length, get_or, take, drop, leb, eqb}
use Rattle.octets.specs.Numbers.{value_of}
use Rattle.book.specs.Book.{Filed, filed, after_rules}

-- what the entry at a place says: the number, the second byte, the length, the distance
abbrev pub number_at : List ℕ → ℕ → ℕ
number_at b at = get_or b at 0

abbrev pub spare_at : List ℕ → ℕ → ℕ
spare_at b at = get_or b (at + 1) 0

unfoldable pub length_at : List ℕ → ℕ → ℕ
length_at b at = value_of (take 2 (drop (at + 2) b))

unfoldable pub distance_at : List ℕ → ℕ → ℕ
distance_at b at = value_of (take 4 (drop (at + 4) b))

-- the count, and where the directory begins
unfoldable pub count_in : List ℕ → ℕ
count_in b = value_of (drop (length b - 2) b)

abbrev pub directory_in : List ℕ → ℕ
directory_in b = length b - after_rules (count_in b)

-- arrays of eight bytes that are the entries of the directory which begins at `start`
pub record AreEntries (b : List ℕ) (start : ℕ) (entries : List (List ℕ)) : Type 0 where
  pub each : (i : ℕ) → i < length entries → get_or entries i [] ≡ take 8 (drop (start + 8 * i) b)

-- the rules of n entries from `at` on, in entry order: the first begins at `start`, each where the one before ends, the last ends at `end`
unfoldable pub filled : List ℕ → (end n at start : ℕ) → Bool
filled b end zero at start = eqb start end
filled b end (suc n) at start =
    eqb (spare_at b at) 0 && (eqb (distance_at b at + start) (length b) && filled b end n (at + 8) (start + length_at b at))

-- a book that is not refused 17
unfoldable pub well_formed : List ℕ → Bool
well_formed b =
    leb 2 (length b) && (leb (count_in b) 1024 && (leb (after_rules (count_in b)) (length b)
    && filled b (directory_in b) (count_in b) (directory_in b) 0))

-- what n entries from `at` on hold, the first rule at `start`; what all entries hold
unfoldable pub entries_from : List ℕ → (n at start : ℕ) → List Filed
entries_from b zero at start = []
entries_from b (suc n) at start =
    filed (number_at b at) (take (length_at b at) (drop start b)) ∷ entries_from b n (at + 8) (start + length_at b at)

unfoldable pub entries_in : List ℕ → List Filed
entries_in b = entries_from b (count_in b) (directory_in b) 0
