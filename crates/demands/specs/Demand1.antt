-- DEMAND 1. Every rule file, sheet, code and buffer length gets a definite answer in finite time.
-- A bad one is refused by number, the run stays where it was, and no lent byte changes.
--
-- That each call returns, whatever it is given, is proved of each function with its contract: none has a `requires`. Here, for each call: there is
-- exactly one answer, with one content of each lent slice; how it ends (`Ends`, crate rule, specs/Given): it tells 0 where no row of the call's table holds,
-- else the number and the places of the first row that does, in the call's order of checking; and what a refused call leaves.
-- A refused or ignored event's answer has no run state: the caller keeps its own. From C it is told back.
-- Ignored is an answer and not a refusal: it is given exactly when 11 and 12 do not hold and the event is K or more, and nothing changes (`Ignores`, crate
-- monitor, specs/Given).
-- An evening ends at its first refused event. There the demand, and the rule that a refusal changes nothing, hold of that event, not of those before it:
-- what it leaves is what these left (`EveningKept`, there too).
-- Assumes nothing: this is a statement. proofs/Demand1 proves it.
use Rattle.std.specs.Prelude.{ℕ, ◌≡◌, List, [], ◌∷◌, length, Result, Ok, Err}
use Rattle.std.specs.Borrow.{Bor}
use Rattle.rule.specs.Drawing.{Drawing, event_no, drawn}
use Rattle.rule.specs.Refusals.{Numbered, first_of, verdict_told, entries, members, excess, moves, stopped}
use Rattle.rule.specs.Given.{Ends, NoPair, BothEmpty}
use Rattle.rule.specs.declared.StateNo.{StateNo}
use Rattle.rule.specs.declared.EventNo.{EventNo}
use Rattle.rule.specs.declared.Rule.{Rule}
use Rattle.rule.specs.declared.Shape.{Shape}
use Rattle.rule.specs.declared.Refusal.{Refusal}
use Rattle.rule.specs.declared.Refusal.TheVariants.{Sheet}
use Rattle.checks.specs.Checked.{checked_of, checked_order}
use Rattle.trailer.specs.Conditions.{shape_conditions, shape_order, head_conditions, head_order}
use Rattle.trailer.specs.declared.Trailer.{Trailer}
use Rattle.rulefile.specs.Given.{Reading, reading_order, Writing, writing_order, Filing, filing_order}
use Rattle.rulefile.specs.Layout.{drawing_in}
use Rattle.rulefile.specs.Reading.{verdict_on, verdict_in, parts_of, reading_of}
use Rattle.rule.specs.Putting.{OneWritten, written_told, put_order}
use Rattle.rule.specs.Verdict.{Written}
use Rattle.rulefile.specs.Writing.{Held, verdict_of, WritePromise, FilePromise}
use Rattle.book.specs.Finding.{lookup_of, verdict_by, FindPromise}
use Rattle.book.specs.Adding.{AddPromise}
use Rattle.book.specs.Given.{Finding, find_order, Adding, add_order}
use Rattle.making.specs.Given.{Making, making_order}
use Rattle.making.specs.Making.{MakePromise}
use Rattle.sheet.specs.Opening.{opened_of, opened_told}
use Rattle.effects.specs.Effects.{Answer, StorePromise, StoreTable, store_order, DumpPromise, DumpTable, dump_order, OneAnswer, answer_told}
use Rattle.effects.specs.declared.Run.{Run}
use Rattle.effects.specs.declared.Taken.{Taken}
use Rattle.monitor.specs.Fresh.{start_of}
use Rattle.monitor.specs.Event.{EventPromise}
use Rattle.monitor.specs.Evening.{EveningPromise}
use Rattle.monitor.specs.Given.{FreshRow, fresh_order, EventRow, event_order, Ignores, EveningRow, evening_order, EveningKept}
use Rattle.monitor.specs.declared.Evening.{Evening}
use Rattle.why.specs.Given.{Asking, why_order}
use Rattle.why.specs.Why.{WhyPromise, ground_told}
use Rattle.why.specs.declared.Ground.{Ground}
use Rattle.printed.specs.Printing.{PrintPromise, Printing, printing_order}
use Rattle.pachallu.specs.Told.{MakeForC, PrintForC, AddForC, FindForC, FreshForC, EventForC, run_of}
use Rattle.pachallu.specs.Told.{made_told, found_told, started_told, answered_told, PutKept, FindKept, FreshKept, EventKept}
use Rattle.pachallu.specs.Told.{IgnoresForC, EveningForC, evening_told, EveningKeptForC}
use Rattle.pachallu.specs.Told.{WhyForC, reason_told, WhyKept}
use Rattle.pachallu.specs.declared.Made.{Made}
use Rattle.pachallu.specs.declared.Found.{Found}
use Rattle.pachallu.specs.declared.Started.{Started}
use Rattle.pachallu.specs.declared.Answered.{Answered}
use Rattle.pachallu.specs.declared.Evening.{Evening as EveningTold}
use Rattle.pachallu.specs.declared.Reason.{Reason}

pub record Demand1 : Type 0 where
  -- a rule file, looked at and read: 1 to 9; refused, no parts and no rule, only the refusal
  pub look : (f : List ℕ) → Ends (Reading f) reading_order (verdict_told (verdict_in (parts_of f))) ((x : Refusal) × (parts_of f ≡ Err x))
  pub read : (f : List ℕ) → Ends (Reading f) reading_order (verdict_told (verdict_in (reading_of f))) ((x : Refusal) × (reading_of f ≡ Err x))
  -- a rule, written: 2, 3, 4 for the note, 5 to 9, then 16; refused, the output as it was
  pub one_write : (r : Rule) (out : List ℕ) → OneWritten (WritePromise r out)
  pub write : (r : Rule) → Held r → (out : List ℕ) (w : Written) (out' : List ℕ) → WritePromise r out w out'
      → Ends (Writing r (length out)) writing_order (written_told w) (out' ≡ out)
  -- a drawing's file, put unchecked: 16; refused, the output as it was
  pub one_file : (d : Drawing) (out : List ℕ) → OneWritten (FilePromise d out)
  pub put_file : (d : Drawing) (out : List ℕ) (w : Written) (out' : List ℕ) → FilePromise d out w out'
      → Ends (Filing d (length out)) filing_order (written_told w) (out' ≡ out)
  -- a rule, looked up in two books: 17, 18; refused, an empty part
  pub find : (job office : Bor (List ℕ)) (number age : ℕ) (part : Bor (List ℕ)) → FindPromise job office number age part
      → Ends (Finding job.now office.now number age) find_order (verdict_told (verdict_by (lookup_of job.now office.now number age))) (part.now ≡ [])
  -- a rule, added to a book: 17, 1 to 9, 26, then 16; refused, the output as it was
  pub one_add : (b : List ℕ) (number : ℕ) (rule out : List ℕ) → OneWritten (AddPromise b number rule out)
  pub add : (b : List ℕ) (number : ℕ) (rule out : List ℕ) (w : Written) (out' : List ℕ) → AddPromise b number rule out w out'
      → Ends (Adding b number rule (length out)) (put_order add_order) (written_told w) (out' ≡ out)
  -- a sheet, made: 1 to 9, then 16; refused, the output as it was
  pub one_make : (f out : List ℕ) → OneWritten (MakePromise f out)
  pub make : (f out : List ℕ) (w : Written) (out' : List ℕ) → MakePromise f out w out' → Ends (Making f (length out)) making_order (written_told w) (out' ≡ out)
  -- why an event is answered as it is: 1 to 9, 12, 13, then 16; refused, the output as it was
  pub one_why : (f : List ℕ) (s e : ℕ) (out : List ℕ) (g h : Result Ground Refusal) (out₁ out₂ : List ℕ)
      → WhyPromise f s e out g out₁ → WhyPromise f s e out h out₂ → (g ≡ h) × (out₁ ≡ out₂)
  pub why : (f : List ℕ) (s e : ℕ) (out : List ℕ) (g : Result Ground Refusal) (out' : List ℕ) → WhyPromise f s e out g out'
      → Ends (Asking f s e (length out)) why_order (ground_told g) (out' ≡ out)
  -- a sheet, opened, and a run started on it: 11; refused, no head and no run, only the refusal
  pub opening : (sheet : List ℕ) → Ends (FreshRow sheet) fresh_order (opened_told (opened_of sheet)) (opened_of sheet ≡ Err Sheet)
  pub fresh : (sheet : List ℕ) → Ends (FreshRow sheet) fresh_order (answer_told (start_of sheet)) (start_of sheet ≡ Err Sheet)
  -- one event: 11, 12, then 14 to 16; refused, the memory and the output as they were; and when it is ignored
  pub one_event : (sheet : List ℕ) (run : Run) (e : EventNo) (memory output : List ℕ) → OneAnswer (EventPromise sheet run e memory output)
  pub event : (sheet : List ℕ) (run : Run) (e : EventNo) (memory output : List ℕ) (r : Answer) (memory' output' : List ℕ)
      → EventPromise sheet run e memory output r memory' output'
      → Ends (EventRow sheet run e (length memory) (length output)) event_order (answer_told r) ((memory' ≡ memory) × (output' ≡ output))
  pub event_ignored : (sheet : List ℕ) (run : Run) (e : EventNo) (memory output : List ℕ) (r : Answer) (memory' output' : List ℕ)
      → EventPromise sheet run e memory output r memory' output' → Ignores sheet run e memory output r memory' output'
  -- an evening of events: 19; then, with no event, 11 and 12, else the numbers of the first event that is refused; refused, what came before it is kept
  pub one_evening : (sheet : List ℕ) (run : Run) (log memory output : List ℕ) → OneAnswer (EveningPromise sheet run log memory output)
  pub evening : (sheet : List ℕ) (run : Run) (log memory output : List ℕ) (r : Evening) (memory' output' : List ℕ)
      → EveningPromise sheet run log memory output r memory' output'
      → Ends (EveningRow sheet run log memory output) evening_order (verdict_told r.verdict) (EveningKept sheet run log memory output r memory' output')
  -- an event's operations alone: a store 15, a dump 16; refused, the memory, or the output, as it was
  pub store : (next : StateNo) (run : Run) (e : EventNo) (memory : List ℕ) (r : Result Taken Refusal) (memory' : List ℕ)
      → StorePromise next run e memory r memory' → Ends (StoreTable run.held (length memory)) store_order (answer_told r) (memory' ≡ memory)
  pub dump : (next : StateNo) (held : List ℕ) (e : EventNo) (output : List ℕ) (r : Result Taken Refusal) (output' : List ℕ)
      → DumpPromise next held e output r output' → Ends (DumpTable (length held) (length output)) dump_order (answer_told r) (output' ≡ output)
  -- a rule's monitor, printed: 16; refused, the output as it was
  pub one_print : (f out : List ℕ) → OneWritten (PrintPromise f out)
  pub print : (f out : List ℕ) (w : Written) (out' : List ℕ) → PrintPromise f out w out'
      → Ends (Printing f (length out)) printing_order (written_told w) (out' ≡ out)
  -- from C the same calls, told in numbers; refused or ignored, every buffer and the run state that was given are as they were, or,
  -- of a refused evening, as the events before the refused one left them
  pub c_make : (rule out : List ℕ) (r : Made) (out' : List ℕ) → MakeForC rule out r out'
      → Ends (Making rule (length out)) making_order (made_told r) (PutKept out r out')
  pub c_print : (rule out : List ℕ) (r : Made) (out' : List ℕ) → PrintForC rule out r out'
      → Ends (Printing rule (length out)) printing_order (made_told r) (PutKept out r out')
  pub c_find : (job office : List ℕ) (number age : ℕ) (r : Found) → FindForC job office number age r
      → Ends (Finding job office number age) find_order (found_told r) (FindKept r)
  pub c_add : (b : List ℕ) (number : ℕ) (rule out : List ℕ) (r : Made) (out' : List ℕ) → AddForC b number rule out r out'
      → Ends (Adding b number rule (length out)) (put_order add_order) (made_told r) (PutKept out r out')
  pub c_fresh : (sheet : List ℕ) (r : Started) → FreshForC sheet r → Ends (FreshRow sheet) fresh_order (started_told r) (FreshKept r)
  pub c_event : (sheet : List ℕ) (state held event : ℕ) (memory output : List ℕ) (r : Answered) (memory' output' : List ℕ)
      → EventForC sheet state held event memory output r memory' output'
      → Ends (EventRow sheet (run_of state held) (event_no event) (length memory) (length output)) event_order (answered_told r)
      (EventKept state held memory output r memory' output')
  pub c_event_ignored : (sheet : List ℕ) (state held event : ℕ) (memory output : List ℕ) (r : Answered) (memory' output' : List ℕ)
      → EventForC sheet state held event memory output r memory' output' → IgnoresForC sheet state held event memory output r memory' output'
  pub c_evening : (sheet : List ℕ) (state held : ℕ) (log memory output : List ℕ) (r : EveningTold) (memory' output' : List ℕ)
      → EveningForC sheet state held log memory output r memory' output'
      → Ends (EveningRow sheet (run_of state held) log memory output) evening_order (evening_told r)
      (EveningKeptForC sheet state held log memory output r memory' output')
  pub c_why : (rule : List ℕ) (state event : ℕ) (way : List ℕ) (r : Reason) (way' : List ℕ) → WhyForC rule state event way r way'
      → Ends (Asking rule state event (length way)) why_order (reason_told r) (WhyKept way r way')
  -- the checks alone, of a shape, a trailer and a drawing, give no other number than these
  pub shape : (s : Shape) (x : Refusal) → first_of (shape_conditions s) ≡ Err x → Numbered shape_order x
  pub head : (t : Trailer) (size : ℕ) (x : Refusal) → first_of (head_conditions t size) ≡ Err x → Numbered head_order x
  pub check : (d : Drawing) (x : Refusal) → checked_of d ≡ Err x → Numbered checked_order x
  -- and each of the checks 5 to 9 alone, of any drawing, gives its own number
  pub check_5 : (d : Drawing) (x : Refusal) → entries d ≡ Err x → Numbered (5 ∷ []) x
  pub check_6 : (d : Drawing) (x : Refusal) → members d ≡ Err x → Numbered (6 ∷ []) x
  pub check_7 : (d : Drawing) (x : Refusal) → excess d ≡ Err x → Numbered (7 ∷ []) x
  pub check_8 : (d : Drawing) (x : Refusal) → moves d ≡ Err x → Numbered (8 ∷ []) x
  pub check_9 : (d : Drawing) (x : Refusal) → stopped d ≡ Err x → Numbered (9 ∷ []) x
  -- 10 is not looked for: a rule file and a rule that are not refused have no used pair with R and P both empty (specs/NoTen, crate rule)
  pub no_10 : (f : List ℕ) → verdict_on f ≡ Ok tt → NoPair (drawing_in f) (BothEmpty (drawing_in f))
  pub no_10_written : (r : Rule) → Held r → verdict_of r ≡ Ok tt → NoPair (drawn r) (BothEmpty (drawn r))
