-- DEMANDS 2 AND 3 FOR THE RULE FOUND. A rule that is kept in a book is looked up in the job's book and the office's (crate book), and what is handed back is
-- the rule of the entry in force. Of it both demands hold as of any rule file; and a rule that `add` put in is one whose sheet can be made.
-- Assumes nothing: these are statements. proofs/Found proves them.
use Rattle.std.specs.Prelude.{ℕ, ◌<◌, ◌≡◌, cond, List, [], ◌∷◌, take, drop, eqb, Ok}
use Rattle.std.specs.Borrow.{Bor}
use Rattle.rulefile.specs.Layout.{drawing_in}
use Rattle.book.specs.Book.{Filed, IsBookOf}
use Rattle.book.specs.Finding.{lookup_of, verdict_by, FindPromise, times, InForce}
use Rattle.book.specs.Adding.{AddPromise}
use Rattle.sheet.specs.Layout.{sheet_of}
use Rattle.effects.specs.declared.Run.{Run}
use Rattle.history.specs.Course.{Entry}
use Rattle.history.specs.History.{History}
use Rattle.pachallu.specs.Told.{FindForC}
use Rattle.pachallu.specs.declared.Found.{Found}
use Rattle.demands.specs.Made.{Made}
use Rattle.demands.specs.Demand2.{Demand2}
use Rattle.demands.specs.Demand3.{Demand3}

-- the rule of the entry in force at an age: in the job's list where it has the number at all, else in the office's
pub data RuleInForce (job office : List Filed) (number age : ℕ) (rule : List ℕ) : Type 0 where
  of_job : {start size : ℕ} (f : InForce job number age start size) → rule ≡ f.entry.rule → RuleInForce job office number age rule
  of_office : {start size : ℕ} → times number job ≡ 0 → (f : InForce office number age start size) → rule ≡ f.entry.rule
      → RuleInForce job office number age rule

-- what holds of the part that `find` hands back
pub record RuleFound (job office : List Filed) (number age : ℕ) (part : List ℕ) : Type 0 where
  pub in_force : RuleInForce job office number age part
  pub demand_2 : (sheet : List ℕ) → Made part sheet → Demand2 (drawing_in part) sheet
  pub demand_3 : (sheet : List ℕ) → Made part sheet → {log : List Entry} {released : List ℕ} {run : Run} {memory : List ℕ}
      → History sheet log released run memory → Demand3 (drawing_in part) sheet log released run memory

-- a book that was begun with no rules, the bytes 0 0, and to which `add` put every rule
pub data Grown : List ℕ → Type 0 where
  begun : Grown (0 ∷ 0 ∷ [])
  added : {b : List ℕ} → Grown b → (number : ℕ) → number < 256 → (rule out : List ℕ) (n : ℕ) (out' : List ℕ)
      → AddPromise b number rule out (Ok n) out' → Grown (take n out')

-- the part that C reads off an answer
abbrev pub part_for_c : Found → (job office : List ℕ) → List ℕ
part_for_c r job office = take r.length (drop r.start (cond (eqb r.book 0) job office))

pub record FromBooks : Type 0 where
  -- of every two books: what `find` hands back, where the lookup is not refused
  pub found : (job office part : Bor (List ℕ)) (l m : List Filed) → IsBookOf job.now l → IsBookOf office.now m → (number age : ℕ)
      → FindPromise job office number age part → verdict_by (lookup_of job.now office.now number age) ≡ Ok tt → RuleFound l m number age part.now
  -- and what a C program finds
  pub c_found : (job office : List ℕ) (l m : List Filed) → IsBookOf job l → IsBookOf office m → (number age : ℕ) (r : Found)
      → FindForC job office number age r → r.refusal ≡ 0 → RuleFound l m number age (part_for_c r job office)
  -- of every two books that `add` has grown: the sheet of what is found can be made
  pub makes : (job office part : Bor (List ℕ)) → Grown job.now → Grown office.now → (number age : ℕ)
      → FindPromise job office number age part → verdict_by (lookup_of job.now office.now number age) ≡ Ok tt
      → Made part.now (sheet_of (drawing_in part.now))
