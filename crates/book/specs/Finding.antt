-- Looking a rule up: in the job's book where it has the number at all, else in the office's.
-- Assumes nothing.
use Rattle.std.specs.Prelude.{ℕ, zero, suc, ◌+◌, ◌-◌, ◌*◌, ◌≤◌, ◌<◌, not, cond, ◌≡◌, List, [], ◌∷◌, ◌++◌, length, take, drop, eqb}
use Rattle.std.specs.Prelude.{Option, Some, None, Result, Ok, Err}
use Rattle.std.specs.Borrow.{Bor}
use Rattle.rule.specs.Refusals.{refuse_if, or_else}
use Rattle.rule.specs.Verdict.{Verdict}
use Rattle.rule.specs.declared.Refusal.{Refusal}
use Rattle.rule.specs.declared.Refusal.TheVariants.{Book, Missing}
use Rattle.rulefile.specs.Reading.{verdict_in}
use Rattle.book.specs.Book.{Filed, rules_of}
use Rattle.book.specs.Directory.{number_at, length_at, distance_at, count_in, directory_in, well_formed}
use Rattle.book.specs.declared.Lookup.{Lookup}
use Rattle.book.specs.declared.Lookup.TheVariants.{Job, Office}

-- an entry's number, and where its rule stands in the book
pub record Entry : Type 0 where
  pub number : ℕ
  pub start : ℕ
  pub size : ℕ

abbrev pub entry_at : List ℕ → ℕ → Entry
entry_at b at = record { number = number_at b at; start = length b - distance_at b at; size = length_at b at }

-- the first n entries of a directory, the newest first; all of them
unfoldable pub newest_of : List ℕ → (directory n : ℕ) → List Entry
newest_of b directory zero = []
newest_of b directory (suc n) = entry_at b (directory + 8 * n) ∷ newest_of b directory n

unfoldable pub newest_first : List ℕ → List Entry
newest_first b = newest_of b (directory_in b) (count_in b)

-- where a book has a rule, its first byte and its length; none, where it does not have the number; 18, where it has none so old
abbrev pub Sought : Type 0
Sought = Result (Option (ℕ × ℕ)) Refusal

-- the newest with the number has age 0, the next one age 1; past the oldest, `none`, and 18 where some had the number
unfoldable pub seek : (number age : ℕ) (none : Sought) → List Entry → Sought
seek number age none [] = none
seek number age none (x ∷ l) =
    cond (eqb x.number number)
    (cond (eqb age 0) (Ok (Some (x.start, x.size))) (seek number (age - 1) (Err Missing) l))
    (seek number age none l)

unfoldable pub sought_in : (b : List ℕ) (number age : ℕ) → Sought
sought_in b number age = seek number age (Ok None) (newest_first b)

-- where the two books have a rule, or a refusal
abbrev pub Looked : Type 0
Looked = Result Lookup Refusal

-- the job's book is used where it has the number at all; 18
abbrev pub pick : (job office : Sought) → Looked
pick (Ok (Some p)) office = Ok (Job p.0 p.1)
pick (Err r) office = Err r
pick (Ok None) (Ok (Some p)) = Ok (Office p.0 p.1)
pick (Ok None) (Ok None) = Err Missing
pick (Ok None) (Err r) = Err r

-- both books are checked, the job's first: 17
abbrev pub books_verdict : (job office : List ℕ) → Verdict
books_verdict job office = or_else (refuse_if (not (well_formed job)) (Book 0)) (refuse_if (not (well_formed office)) (Book 1))

abbrev pub unless : Verdict → Looked → Looked
unless (Ok _) found = found
unless (Err r) found = Err r

-- what a lookup comes to
unfoldable pub lookup_of : (job office : List ℕ) (number age : ℕ) → Looked
lookup_of job office number age = unless (books_verdict job office) (pick (sought_in job number age) (sought_in office number age))

-- its verdict
abbrev pub verdict_by : Looked → Verdict
verdict_by = verdict_in

-- the part of a lent slice that begins at `start`: it stands there, and holds those bytes
pub record PartOf (whole : Bor (List ℕ)) (start size : ℕ) (part : Bor (List ℕ)) : Type 0 where
  pub bytes : part.now ≡ take size (drop start whole.now)
  pub block : part.ref_ptr.0 ≡ whole.ref_ptr.0
  pub place : part.ref_ptr.1 ≡ whole.ref_ptr.1 + start

-- the part that is handed back: of the job's book, of the office's, or, refused, an empty one
abbrev pub PartBy : Looked → (job office part : Bor (List ℕ)) → Type 0
PartBy (Ok (Job start size)) job office part = PartOf job start size part
PartBy (Ok (Office start size)) job office part = PartOf office start size part
PartBy (Err r) job office part = PartOf job 0 0 part

abbrev pub FindPromise : (job office : Bor (List ℕ)) (number age : ℕ) (part : Bor (List ℕ)) → Type 0
FindPromise job office number age part = PartBy (lookup_of job.now office.now number age) job office part

-- its bytes
abbrev pub bytes_by : Looked → (job office : List ℕ) → List ℕ
bytes_by (Ok (Job start size)) job office = take size (drop start job)
bytes_by (Ok (Office start size)) job office = take size (drop start office)
bytes_by (Err r) job office = []

-- how many entries of a list have the number
unfoldable pub times : ℕ → List Filed → ℕ
times number [] = 0
times number (x ∷ l) = cond (eqb x.number number) (suc (times number l)) (times number l)

-- the entry in force under a number at an age: so many later entries have the number; its rule begins where the rules before it end
pub record InForce (l : List Filed) (number age start size : ℕ) : Type 0 where
  pub before : List Filed
  pub entry : Filed
  pub after : List Filed
  pub is : l ≡ before ++ entry ∷ after
  pub numbered : entry.number ≡ number
  pub later : times number after ≡ age
  pub begins : start ≡ length (rules_of before)
  pub long : size ≡ length entry.rule

-- 18: neither book has the number, or the one used has no such age
pub data NotThere (job office : List Filed) (number age : ℕ) : Type 0 where
  in_neither : times number job ≡ 0 → times number office ≡ 0 → NotThere job office number age
  not_in_job : 0 < times number job → times number job ≤ age → NotThere job office number age
  not_in_office : times number job ≡ 0 → 0 < times number office → times number office ≤ age → NotThere job office number age

-- what a lookup says of the two lists that the books are of
pub data Finds (job office : List Filed) (number age : ℕ) : Looked → Type 0 where
  in_job : {start size : ℕ} → InForce job number age start size → Finds job office number age (Ok (Job start size))
  in_office : {start size : ℕ} → times number job ≡ 0 → InForce office number age start size → Finds job office number age (Ok (Office start size))
  not_there : NotThere job office number age → Finds job office number age (Err Missing)
