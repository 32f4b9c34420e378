-- The rows of the table for looking up and for adding, in plain words.
-- Assumes nothing.
use Rattle.std.specs.Prelude.{ℕ, zero, suc, ◌+◌, ◌*◌, ◌≤◌, ◌<◌, ◌≡◌, List, [], ◌∷◌, ◌++◌, length}
use Rattle.rule.specs.Given.{Table}
use Rattle.rule.specs.declared.Refusal.{Refusal}
use Rattle.rule.specs.declared.Refusal.TheVariants.{Book, Missing, Full}
use Rattle.rule.specs.Putting.{Put}
use Rattle.rulefile.specs.Given.{Reading, reading_order}
use Rattle.book.specs.Book.{after_rules}
use Rattle.book.specs.Directory.{spare_at, length_at, distance_at, count_in, directory_in, entries_in}
use Rattle.book.specs.Finding.{NotThere}
use Rattle.book.specs.Adding.{with_rule}

-- the lengths of the first i rules of a directory together
unfoldable pub lengths_to : List ℕ → (at i : ℕ) → ℕ
lengths_to b at zero = 0
lengths_to b at (suc i) = length_at b at + lengths_to b (at + 8) i

-- the rules of n entries from `at` on, in entry order, exactly fill the bytes from `start` to `end`: each begins where those before it end
pub record Fills (b : List ℕ) (end n at start : ℕ) : Type 0 where
  pub begins : (i : ℕ) → i < n → distance_at b (at + 8 * i) + (start + lengths_to b at i) ≡ length b
  pub ends : start + lengths_to b at n ≡ end

-- 17: a count is missing or over 1,024, the directory exceeds the book, a second byte is not 0, or the rules do not fill the book up to the directory
pub data BadBook (b : List ℕ) : Type 0 where
  no_count : length b < 2 → BadBook b
  many : 1024 < count_in b → BadBook b
  wide : length b < after_rules (count_in b) → BadBook b
  spare : (i : ℕ) → i < count_in b → (spare_at b (directory_in b + 8 * i) ≡ 0 → ⊥) → BadBook b
  unfilled : (Fills b (directory_in b) (count_in b) (directory_in b) 0 → ⊥) → BadBook b

-- looking up gives 17, the job's book first, then 18
abbrev pub find_order : List ℕ
find_order = 17 ∷ 18 ∷ []

pub data Finding (job office : List ℕ) (number age : ℕ) : ℕ → Refusal → Type 0 where
  bad_job : BadBook job → Finding job office number age 17 (Book 0)
  bad_office : (BadBook job → ⊥) → BadBook office → Finding job office number age 17 (Book 1)
  at_18 : NotThere (entries_in job) (entries_in office) number age → Finding job office number age 18 Missing

-- adding gives 17 for its book, 1 to 9 for the rule file, 26 for a full directory, then 16
abbrev pub add_order : List ℕ
add_order = 17 ∷ (reading_order ++ (26 ∷ []))

pub data AddRow (b rule : List ℕ) : ℕ → Refusal → Type 0 where
  at_17 : BadBook b → AddRow b rule 17 (Book 0)
  file : {n : ℕ} {x : Refusal} → Reading rule n x → AddRow b rule n x
  at_26 : 1024 ≤ count_in b → AddRow b rule 26 Full

abbrev pub Adding : (b : List ℕ) (number : ℕ) (rule : List ℕ) → ℕ → Table
Adding b number rule room = Put (AddRow b rule) (length (with_rule b number rule)) room
