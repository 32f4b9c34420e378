-- What many events in one call come to: the single calls one after another, each given the unwritten rest of the output, up to the first refusal.
-- Assumes nothing.
use Rattle.std.specs.Prelude.{ℕ, ◌+◌, ◌≡◌, cond, List, [], ◌∷◌, ◌++◌, length, take, drop, ltb, None, Some, Ok, Err}
use Rattle.rule.specs.Drawing.{event_no}
use Rattle.rule.specs.Refusals.{refuse_if}
use Rattle.rule.specs.declared.Operation.{Operation}
use Rattle.rule.specs.declared.Refusal.{Refusal}
use Rattle.rule.specs.declared.Refusal.TheVariants.{Run as BadRun, Log}
use Rattle.rule.specs.Verdict.{Verdict}
use Rattle.sheet.specs.Opening.{Opened, opened_of}
use Rattle.effects.specs.Effects.{Answer, answer_in, memory_in, output_in}
use Rattle.effects.specs.declared.Run.{Run}
use Rattle.effects.specs.declared.Taken.{Taken}
use Rattle.monitor.specs.Event.{unfit, turn_of, EventPromise}
use Rattle.monitor.specs.declared.Evening.{Evening}

-- an event that was taken: its code, and the operation that it was answered
pub record Entry : Type 0 where
  pub code : ℕ
  pub operation : Operation

-- the codes of a log
abbrev pub codes : List Entry → List ℕ
codes [] = []
codes (x ∷ xs) = x.code ∷ codes xs

-- what calls come to: the events taken, what they released, the events ignored, the run and the memory after them, the output's unwritten rest, the refusal
-- that ended them
pub record Outcome : Type 0 where
  pub taken : List Entry
  pub released : List ℕ
  pub ignored : List ℕ
  pub run : Run
  pub memory : List ℕ
  pub rest : List ℕ
  pub verdict : Verdict

-- no event is taken or ignored
abbrev pub idle : Run → (memory output : List ℕ) → Verdict → Outcome
idle run memory output v = record { taken = []; released = []; ignored = []; run = run; memory = memory; rest = output; verdict = v }

-- the events taken, what they released and the events ignored first, and then what the later calls come to
abbrev pub joined : List Entry → (released ignored : List ℕ) → Outcome → Outcome
joined taken released ignored x =
    record x { taken = taken ++ x.taken; released = released ++ x.released; ignored = ignored ++ x.ignored }

-- a refused event ends the calls; one that is taken goes before the later calls, which are given the rest of the output; so does one that is ignored, and the
-- later calls are given what it was given
abbrev pub go_on : Answer → (e : ℕ) → Run → (memory output : List ℕ) → (Run → (memory rest : List ℕ) → Outcome) → Outcome
go_on (Err x) e run memory output later = idle run memory output (Err x)
go_on (Ok None) e run memory output later = joined [] [] (e ∷ []) (later run memory output)
go_on (Ok (Some t)) e run memory output later =
    joined (record { code = e; operation = t.operation } ∷ []) (take t.released output) [] (later t.run memory (drop t.released output))

-- the single calls, one after another
unfoldable pub calls_of : (sheet : List ℕ) → Run → (log memory output : List ℕ) → Outcome
calls_of sheet run [] memory output = idle run memory output (Ok tt)
calls_of sheet run (e ∷ es) memory output =
    let turn = turn_of sheet run (event_no e) memory output in
    go_on (answer_in turn run.held) e run (memory_in turn run.held e memory) (output_in turn run.held e memory output)
    (λ next left rest. calls_of sheet next es left rest)

-- 11 and 12
abbrev pub stands_by : Opened → Run → (room : ℕ) → Verdict
stands_by (Err x) run room = Err x
stands_by (Ok h) run room = refuse_if (unfit h run room) BadRun

-- whether an evening may begin: 19, a log over 4,096 events, ignored ones too, comes before 11 and 12
abbrev pub ready_of : (sheet : List ℕ) → Run → (log : List ℕ) → (room : ℕ) → Verdict
ready_of sheet run log room = cond (ltb 4096 (length log)) (Err Log) (stands_by (opened_of sheet) run room)

-- an empty log still gives these; any other is the single calls, of which the first gives them
abbrev pub short_evening : (sheet : List ℕ) → Run → (log memory output : List ℕ) → Outcome
short_evening sheet run [] memory output = idle run memory output (stands_by (opened_of sheet) run (length memory))
short_evening sheet run (e ∷ es) memory output = calls_of sheet run (e ∷ es) memory output

-- 19: a log over 4,096 events, ignored ones too, before 11 and with nothing taken
unfoldable pub evening_of : (sheet : List ℕ) → Run → (log memory output : List ℕ) → Outcome
evening_of sheet run log memory output = cond (ltb 4096 (length log)) (idle run memory output (Err Log)) (short_evening sheet run log memory output)

-- what is reported of calls: the run, the numbers taken, released and ignored, the refusal; and the whole of the memory and the output after them
abbrev pub report_of : Outcome → Evening
report_of x =
    record { run = x.run; taken = length x.taken; released = length x.released; ignored = length x.ignored; verdict = x.verdict }

pub record Reports (x : Outcome) (r : Evening) (memory' output' : List ℕ) : Type 0 where
  pub report : r ≡ report_of x
  pub memory_after : memory' ≡ x.memory
  pub output_after : output' ≡ x.released ++ x.rest

-- the promise of an evening
abbrev pub EveningPromise : (sheet : List ℕ) → Run → (log memory output : List ℕ) → Evening → (memory' output' : List ℕ) → Type 0
EveningPromise sheet run log memory output = Reports (evening_of sheet run log memory output)

-- real calls: each keeps the promise of one event, and gets the run, the memory and the unwritten rest of the output that the one before left
pub data Calls (sheet : List ℕ) : Run → (log memory output : List ℕ) → Outcome → Type 0 where
  over : {run : Run} {memory output : List ℕ} → Calls sheet run [] memory output (idle run memory output (Ok tt))
  refused : {run : Run} {e : ℕ} {es memory output : List ℕ} {x : Refusal} {memory' output' : List ℕ}
      → EventPromise sheet run (event_no e) memory output (Err x) memory' output'
      → Calls sheet run (e ∷ es) memory output (idle run memory' output' (Err x))
  ignored : {run : Run} {e : ℕ} {es memory output : List ℕ} {memory' output' : List ℕ} {later : Outcome}
      → EventPromise sheet run (event_no e) memory output (Ok None) memory' output' → Calls sheet run es memory' output' later
      → Calls sheet run (e ∷ es) memory output (joined [] [] (e ∷ []) later)
  taken : {run : Run} {e : ℕ} {es memory output : List ℕ} {t : Taken} {memory' output' : List ℕ} {later : Outcome}
      → EventPromise sheet run (event_no e) memory output (Ok (Some t)) memory' output' → Calls sheet t.run es memory' (drop t.released output') later
      → Calls sheet run (e ∷ es) memory output (joined (record { code = e; operation = t.operation } ∷ []) (take t.released output') [] later)

-- what an evening promises is what such calls leave
pub record SingleCalls (sheet : List ℕ) (run : Run) (log memory output : List ℕ) (r : Evening) (memory' output' : List ℕ) : Type 0 where
  pub outcome : Outcome
  pub calls : Calls sheet run log memory output outcome
  pub reports : Reports outcome r memory' output'

-- two evenings, the second on from the first, reported as one
abbrev pub both_of : Evening → Evening → Evening
both_of r s =
    record {
      run = s.run;
      taken = r.taken + s.taken;
      released = r.released + s.released;
      ignored = r.ignored + s.ignored;
      verdict = s.verdict;
    }
