-- Adding a rule file to a book.
-- Assumes nothing.
use Rattle.std.specs.Prelude.{ℕ, ◌+◌, ◌-◌, ◌*◌, ◌≡◌, true, not, List, [], ◌∷◌, ◌++◌, ◌↔◌, length, take, drop, leb, Some, Ok}
use Rattle.octets.specs.Numbers.{digits}
use Rattle.rule.specs.Refusals.{refuse_if, first_of}
use Rattle.rule.specs.declared.Refusal.TheVariants.{Book, Full}
use Rattle.rule.specs.Putting.{PutPromise}
use Rattle.rulefile.specs.Layout.{flat_up_to}
use Rattle.rulefile.specs.Reading.{verdict_on}
use Rattle.book.specs.Book.{filed, entry_of, after_rules, book_of}
use Rattle.book.specs.Directory.{number_at, length_at, distance_at, count_in, directory_in, well_formed, entries_in}
use Rattle.book.specs.Finding.{sought_in}
use Rattle.rule.specs.Verdict.{Verdict, Written}

-- the book with one entry more
abbrev pub with_rule : (b : List ℕ) (number : ℕ) (rule : List ℕ) → List ℕ
with_rule b number rule = book_of (entries_in b ++ (filed number rule ∷ []))

-- what adding refuses before it looks for room: 17, 1 to 9, 26
unfoldable pub add_verdict : (b rule : List ℕ) → Verdict
add_verdict b rule = first_of (refuse_if (not (well_formed b)) (Book 0) ∷ verdict_on rule ∷ refuse_if (leb 1024 (count_in b)) Full ∷ [])

-- the promise of adding
abbrev pub AddPromise : (b : List ℕ) (number : ℕ) (rule out : List ℕ) → Written → List ℕ → Type 0
AddPromise b number rule out w out' = PutPromise (add_verdict b rule) (with_rule b number rule) out w out'

-- what a book with one rule more is to the one before
pub record Adds (b : List ℕ) (number : ℕ) (rule b' : List ℕ) : Type 0 where
  -- it is well formed, the book of the list with one entry more
  pub formed : well_formed b' ≡ true
  pub entries : entries_in b' ≡ entries_in b ++ (filed number rule ∷ [])
  -- the number at age 0 is the added file
  pub latest : sought_in b' number 0 ≡ Ok (Some (directory_in b, length rule))
  pub bytes : take (length rule) (drop (directory_in b) b') ≡ rule
  -- at age a + 1 it is what age a was before, every other number is as before
  pub older : (age start size : ℕ) → (sought_in b' number (age + 1) ≡ Ok (Some (start, size))) ↔ (sought_in b number age ≡ Ok (Some (start, size)))
  pub others : (other age : ℕ) → (number ≡ other → ⊥) → sought_in b' other age ≡ sought_in b other age
  -- and the bytes up to the old directory are unchanged
  pub unchanged : take (directory_in b) b' ≡ take (directory_in b) b

-- how the code goes about it, which is shown to be the same

-- entry i of a directory, its distance grown; the first of them
abbrev pub moved_at : List ℕ → (directory grow i : ℕ) → List ℕ
moved_at b directory grow i =
    entry_of (number_at b (directory + 8 * i)) (length_at b (directory + 8 * i)) (distance_at b (directory + 8 * i) + grow)

abbrev pub moved_of : List ℕ → (directory grow count : ℕ) → List ℕ
moved_of b directory grow count = flat_up_to (moved_at b directory grow) count

-- the entry of the last rule of a book of so many, and the count
unfoldable pub last_of : (number size count : ℕ) → List ℕ
last_of number size count = entry_of number size (size + after_rules count) ++ digits 2 count

-- the old entries with their distances grown, the new entry, the count
abbrev pub grown_directory : (b : List ℕ) (count number size : ℕ) → List ℕ
grown_directory b count number size = moved_of b (length b - after_rules count) (size + 8) count ++ last_of number size (count + 1)

-- the old rules, the new one, the new directory
unfoldable pub grown : (b : List ℕ) (number : ℕ) (rule : List ℕ) → List ℕ
grown b number rule = take (directory_in b) b ++ (rule ++ grown_directory b (count_in b) number (length rule))
