-- The answers told in numbers. Each promise is that of the call behind it, with the numbers of its answer.
-- Assumes nothing.
use Rattle.std.specs.Prelude.{ℕ, ◌≤◌, ◌≡◌, List, ◌↔◌, length, Ok, Err, Result, None, Some}
use Rattle.rule.specs.Drawing.{state_no, event_no}
use Rattle.rule.specs.Operations.{mark_of}
use Rattle.rule.specs.Refusals.{tell, told_of, verdict_told}
use Rattle.rule.specs.declared.Operation.{Operation}
use Rattle.rule.specs.declared.Operation.TheVariants.{Halt, Store, Dump}
use Rattle.rule.specs.Given.{NoRow}
use Rattle.sheet.specs.Layout.{head_in}
use Rattle.rule.specs.declared.Refusal.{Refusal}
use Rattle.rule.specs.declared.Told.{Told}
use Rattle.book.specs.Finding.{lookup_of}
use Rattle.book.specs.Adding.{AddPromise}
use Rattle.book.specs.declared.Lookup.{Lookup}
use Rattle.book.specs.declared.Lookup.TheVariants.{Job, Office}
use Rattle.making.specs.Making.{MakePromise}
use Rattle.printed.specs.Printing.{PrintPromise}
use Rattle.monitor.specs.Fresh.{start_of}
use Rattle.monitor.specs.Event.{EventPromise}
use Rattle.monitor.specs.Evening.{EveningPromise}
use Rattle.monitor.specs.Given.{StandRow, EveningKept}
use Rattle.monitor.specs.declared.Evening.{Evening as Reported}
use Rattle.effects.specs.declared.Run.{Run}
use Rattle.effects.specs.Effects.{Answer}
use Rattle.why.specs.Why.{WhyPromise}
use Rattle.why.specs.declared.Ground.{Ground}
use Rattle.why.specs.declared.Ground.TheVariants.{Halted, Held, Released}
use Rattle.pachallu.specs.declared.Made.{Made}
use Rattle.pachallu.specs.declared.Started.{Started}
use Rattle.pachallu.specs.declared.Answered.{Answered}
use Rattle.pachallu.specs.declared.Found.{Found}
use Rattle.pachallu.specs.declared.Evening.{Evening}
use Rattle.pachallu.specs.declared.Reason.{Reason}
use Rattle.rule.specs.Verdict.{Written}

-- putting bytes into an output: 0 is "done"; a refused call has written nothing
abbrev pub made_of : Written → Made
made_of (Ok n) = record { refusal = 0; a = 0; b = 0; written = n }
made_of (Err r) = record { refusal = (told_of r).number; a = (told_of r).a; b = (told_of r).b; written = 0 }

pub record PutForC (Promise : Written → List ℕ → Type 0) (r : Made) (out' : List ℕ) : Type 0 where
  pub answer : Written
  pub promise : Promise answer out'
  pub told : r ≡ made_of answer

-- making a sheet, printing a monitor, adding a rule to a book
abbrev pub MakeForC : List ℕ → List ℕ → Made → List ℕ → Type 0
MakeForC rule sheet = PutForC (MakePromise rule sheet)

abbrev pub PrintForC : List ℕ → List ℕ → Made → List ℕ → Type 0
PrintForC rule text = PutForC (PrintPromise rule text)

abbrev pub AddForC : (b : List ℕ) (number : ℕ) (rule out : List ℕ) → Made → List ℕ → Type 0
AddForC b number rule out = PutForC (AddPromise b number rule out)

-- looking a rule up: 0 is "found", in the job's book (0) or the office's (1); a refused one has 0 in every place
abbrev pub found_of : Result Lookup Refusal → Found
found_of (Ok (Job start size)) = record { refusal = 0; a = 0; b = 0; book = 0; start = start; length = size }
found_of (Ok (Office start size)) = record { refusal = 0; a = 0; b = 0; book = 1; start = start; length = size }
found_of (Err r) = record { refusal = (told_of r).number; a = (told_of r).a; b = (told_of r).b; book = 0; start = 0; length = 0 }

abbrev pub FindForC : (job office : List ℕ) (number age : ℕ) → Found → Type 0
FindForC job office number age r = r ≡ found_of (lookup_of job office number age)

-- a fresh start; a refused one is at state 0 with nothing held
abbrev pub started_of : Result Run Refusal → Started
started_of (Ok run) = record { refusal = 0; a = 0; b = 0; state = run.state.0; held = run.held }
started_of (Err r) = record { refusal = (told_of r).number; a = (told_of r).a; b = (told_of r).b; state = 0; held = 0 }

abbrev pub FreshForC : List ℕ → Started → Type 0
FreshForC sheet r = r ≡ started_of (start_of sheet)

-- the run state that C carries
abbrev pub run_of : ℕ → ℕ → Run
run_of state held = record { state = state_no state; held = held }

-- one event: 0 is "taken" or "ignored"; an ignored or refused one has the state and the held number that it was given, and released 0; the operation of an
-- ignored one is 3, of a refused one 0
abbrev pub ignored_for : Run → Answered
ignored_for before = record { refusal = 0; a = 0; b = 0; operation = 3; state = before.state.0; held = before.held; released = 0 }

abbrev pub answered_of : Answer → Run → Answered
answered_of (Ok (Some t)) before =
    record { refusal = 0; a = 0; b = 0; operation = mark_of t.operation; state = t.run.state.0; held = t.run.held; released = t.released }
answered_of (Ok None) before = ignored_for before
answered_of (Err r) before =
    record {
      refusal = (told_of r).number;
      a = (told_of r).a;
      b = (told_of r).b;
      operation = 0;
      state = before.state.0;
      held = before.held;
      released = 0;
    }

pub record EventForC (sheet : List ℕ) (state held event : ℕ) (memory output : List ℕ) (r : Answered) (memory' output' : List ℕ) : Type 0 where
  pub answer : Answer
  pub promise : EventPromise sheet (run_of state held) (event_no event) memory output answer memory' output'
  pub told : r ≡ answered_of answer (run_of state held)

-- an evening: 0 is "none refused"; a refused one has the run state, and the numbers taken, released and ignored, that the events before the refused one left
abbrev pub evening_for : Reported → Evening
evening_for r =
    record {
      refusal = (verdict_told r.verdict).number;
      a = (verdict_told r.verdict).a;
      b = (verdict_told r.verdict).b;
      state = r.run.state.0;
      held = r.run.held;
      taken = r.taken;
      released = r.released;
      ignored = r.ignored;
    }

pub record EveningForC (sheet : List ℕ) (state held : ℕ) (log memory output : List ℕ) (r : Evening) (memory' output' : List ℕ) : Type 0 where
  pub answer : Reported
  pub promise : EveningPromise sheet (run_of state held) log memory output answer memory' output'
  pub told : r ≡ evening_for answer

-- why: the operation, the pair and the length of the way; no pair for a dump, no way but for a store; a refused one has 0 in their places
abbrev pub reason_by : Operation → (pair length : ℕ) → Reason
reason_by o pair length = record { refusal = 0; a = 0; b = 0; operation = mark_of o; pair = pair; length = length }

abbrev pub reason_of : Result Ground Refusal → Reason
reason_of (Ok (Halted i)) = reason_by Halt i 0
reason_of (Ok (Held i n)) = reason_by Store i n
reason_of (Ok Released) = reason_by Dump 0 0
reason_of (Err r) = record { refusal = (told_of r).number; a = (told_of r).a; b = (told_of r).b; operation = 0; pair = 0; length = 0 }

pub record WhyForC (rule : List ℕ) (state event : ℕ) (way : List ℕ) (r : Reason) (way' : List ℕ) : Type 0 where
  pub answer : Result Ground Refusal
  pub promise : WhyPromise rule state event way answer way'
  pub told : r ≡ reason_of answer

-- the number and the places of an answer
abbrev pub made_told : Made → Told
made_told r = tell r.refusal r.a r.b

abbrev pub started_told : Started → Told
started_told r = tell r.refusal r.a r.b

abbrev pub answered_told : Answered → Told
answered_told r = tell r.refusal r.a r.b

abbrev pub found_told : Found → Told
found_told r = tell r.refusal r.a r.b

abbrev pub evening_told : Evening → Told
evening_told r = tell r.refusal r.a r.b

abbrev pub reason_told : Reason → Told
reason_told r = tell r.refusal r.a r.b

-- what a refused call leaves: the output as it was and nothing written; 0 for the book, the start and the length; the way as it was, and 0 for the
-- operation, the pair and the length; state 0 with nothing held; the memory, the output and the run state as they were
pub record PutKept (out : List ℕ) (r : Made) (out' : List ℕ) : Type 0 where
  pub output_kept : out' ≡ out
  pub written : r.written ≡ 0

pub record FindKept (r : Found) : Type 0 where
  pub book : r.book ≡ 0
  pub start : r.start ≡ 0
  pub length : r.length ≡ 0

pub record WhyKept (way : List ℕ) (r : Reason) (way' : List ℕ) : Type 0 where
  pub way_kept : way' ≡ way
  pub operation : r.operation ≡ 0
  pub pair : r.pair ≡ 0
  pub length : r.length ≡ 0

pub record FreshKept (r : Started) : Type 0 where
  pub state : r.state ≡ 0
  pub held : r.held ≡ 0

pub record EventKept (state held : ℕ) (memory output : List ℕ) (r : Answered) (memory' output' : List ℕ) : Type 0 where
  pub memory_kept : memory' ≡ memory
  pub output_kept : output' ≡ output
  pub state_kept : r.state ≡ state
  pub held_kept : r.held ≡ held
  pub operation : r.operation ≡ 0
  pub released : r.released ≡ 0

-- an event is told as ignored, by operation 3, exactly when 11 and 12 do not hold and it is K or more; then the run state that was given is told back, and
-- nothing changes
pub record IgnoresForC (sheet : List ℕ) (state held event : ℕ) (memory output : List ℕ) (r : Answered) (memory' output' : List ℕ) : Type 0 where
  pub exactly : (r.operation ≡ 3) ↔ (NoRow (StandRow sheet (run_of state held) (length memory)) × ((head_in sheet).events ≤ event))
  pub told : r.operation ≡ 3 → r ≡ ignored_for (run_of state held)
  pub memory_kept : r.operation ≡ 3 → memory' ≡ memory
  pub output_kept : r.operation ≡ 3 → output' ≡ output

-- what a refused evening leaves: what the events before the refused one left, told in numbers
pub record EveningKeptForC (sheet : List ℕ) (state held : ℕ) (log memory output : List ℕ) (r : Evening) (memory' output' : List ℕ) : Type 0 where
  pub answer : Reported
  pub told : r ≡ evening_for answer
  pub kept : EveningKept sheet (run_of state held) log memory output answer memory' output'
