-- A rule book: rule files one after another, a directory of eight-byte entries, oldest first, and the count.
-- Assumes nothing.
use Rattle.std.specs.Prelude.{ℕ, ◌+◌, ◌*◌, ◌≤◌, ◌<◌, ◌≡◌, List, [], ◌∷◌, ◌++◌, length}
use Rattle.octets.specs.Numbers.{digits}

-- a rule file under its number
pub record Filed : Type 0 where
  pub number : ℕ
  pub rule : List ℕ

abbrev pub filed : ℕ → List ℕ → Filed
filed number rule = record { number = number; rule = rule }

-- the rule files one after another
unfoldable pub rules_of : List Filed → List ℕ
rules_of [] = []
rules_of (x ∷ l) = x.rule ++ rules_of l

-- an entry: the number, 0, the length, the distance from the book's end back to the rule's first byte
abbrev pub entry_of : ℕ → ℕ → ℕ → List ℕ
entry_of number size distance = number ∷ 0 ∷ (digits 2 size ++ digits 4 distance)

-- the entries of the last rules of a book in which `after` bytes stand after the rules
unfoldable pub directory_of : ℕ → List Filed → List ℕ
directory_of after [] = []
directory_of after (x ∷ l) = entry_of x.number (length x.rule) (length (rules_of (x ∷ l)) + after) ++ directory_of after l

-- the bytes of a directory of so many entries and of the count
abbrev pub after_rules : ℕ → ℕ
after_rules count = 8 * count + 2

-- the book of a list
unfoldable pub book_of : List Filed → List ℕ
book_of l = rules_of l ++ (directory_of (after_rules (length l)) l ++ digits 2 (length l))

-- what a book can keep: a rule file under 65,536 bytes, under a number from 0 to 255
pub record Keepable (x : Filed) : Type 0 where
  pub numbered : x.number < 256
  pub short : length x.rule < 65536

unfoldable pub AllKeepable : List Filed → Type 0
AllKeepable [] = Unit {0}
AllKeepable (x ∷ l) = Keepable x × AllKeepable l

-- the bytes are the book of this list: at most 1,024 entries, each of which a book can keep
pub record IsBookOf (b : List ℕ) (l : List Filed) : Type 0 where
  pub few : length l ≤ 1024
  pub kept : AllKeepable l
  pub is : b ≡ book_of l
