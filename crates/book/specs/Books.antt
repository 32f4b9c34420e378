-- What is proved of rule books (request M-100), in one place.
-- Assumes nothing: this is a statement. proofs/BooksHold proves it.
use Rattle.std.specs.Prelude.{ℕ, ◌<◌, ◌≡◌, List, ◌↔◌, length, take, drop, Ok, Err}
use Rattle.octets.specs.Numbers.{Bytes}
use Rattle.rule.specs.Given.{Given, NoRow}
use Rattle.rule.specs.declared.Refusal.{Refusal}
use Rattle.rule.specs.Putting.{put_order}
use Rattle.book.specs.Book.{Filed, IsBookOf}
use Rattle.book.specs.Finding.{lookup_of, verdict_by, InForce, Finds}
use Rattle.book.specs.Adding.{with_rule, AddPromise, Adds}
use Rattle.book.specs.Given.{BadBook, find_order, Finding, add_order, Adding}
use Rattle.rule.specs.Verdict.{Written}

pub record Books : Type 0 where
  -- bytes are not refused 17 exactly when they are the book of a list, and that list is the only one
  pub books : (b : List ℕ) → Bytes b → (BadBook b → ⊥) ↔ ((l : List Filed) × IsBookOf b l)
  pub only : (b : List ℕ) (l m : List Filed) → IsBookOf b l → IsBookOf b m → l ≡ m
  -- looking up gives 17 and 18 exactly when their rows hold, and no other number
  pub find_refused : (job office : List ℕ) (number age : ℕ) (x : Refusal)
      → (verdict_by (lookup_of job office number age) ≡ Err x) ↔ Given (Finding job office number age) x find_order
  pub find_sound : (job office : List ℕ) (number age : ℕ) → (verdict_by (lookup_of job office number age) ≡ Ok tt) ↔ NoRow (Finding job office number age)
  -- what is found is the part of the entry in force at that age, and its bytes are that entry's
  pub finds : (job office : List ℕ) (l m : List Filed) → IsBookOf job l → IsBookOf office m → (number age : ℕ)
      → Finds l m number age (lookup_of job office number age)
  pub bytes : (b : List ℕ) (l : List Filed) → IsBookOf b l → {number age start size : ℕ} (f : InForce l number age start size)
      → take size (drop start b) ≡ f.entry.rule
  -- adding gives 17, 1 to 9, 26 and 16, in this order, exactly when their rows hold; else it is done
  pub add_refused : (b : List ℕ) (number : ℕ) (rule out : List ℕ) (w : Written) (out' : List ℕ) → AddPromise b number rule out w out' → (x : Refusal)
      → (w ≡ Err x) ↔ Given (Adding b number rule (length out)) x (put_order add_order)
  pub add_done : (b : List ℕ) (number : ℕ) (rule out : List ℕ) (w : Written) (out' : List ℕ) → AddPromise b number rule out w out' → (n : ℕ)
      → (w ≡ Ok n) ↔ (NoRow (Adding b number rule (length out)) × (n ≡ length (with_rule b number rule)))
  -- and the new book is the old one with one entry more
  pub adds : (b : List ℕ) (number : ℕ) (rule out : List ℕ) (n : ℕ) (out' : List ℕ) → Bytes b → number < 256 → AddPromise b number rule out (Ok n) out'
      → Adds b number rule (take n out')
