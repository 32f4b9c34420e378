-- The paper's table "Refusal numbers" for a fresh start, 11, for an event, 11, 12 and 14 to 16, and for an evening, 19 and then those: number, refusal, when.
-- And when an event is ignored.
-- Assumes nothing.
use Rattle.std.specs.Prelude.{ℕ, ◌+◌, ◌/◌, ◌%◌, ◌≤◌, ◌<◌, ◌≡◌, List, [], ◌∷◌, ◌++◌, ◌↔◌, length, drop, None, Ok, Err}
use Rattle.rule.specs.Drawing.{state_no, event_no}
use Rattle.rule.specs.Given.{NoRow, Given}
use Rattle.rule.specs.Refusals.{told_of}
use Rattle.rule.specs.declared.StateNo.{StateNo}
use Rattle.rule.specs.declared.EventNo.{EventNo}
use Rattle.rule.specs.declared.Operation.{Operation}
use Rattle.rule.specs.declared.Operation.TheVariants.{Store, Dump}
use Rattle.rule.specs.declared.Refusal.{Refusal}
use Rattle.rule.specs.declared.Refusal.TheVariants.{Sheet as NoSheet, Run as BadRun, Cell, Memory, Room, Log}
use Rattle.sheet.specs.Given.{BadSheet}
use Rattle.sheet.specs.Layout.{head_in, operation_of}
use Rattle.effects.specs.declared.Run.{Run}
use Rattle.effects.specs.Effects.{Answer}
use Rattle.monitor.specs.Event.{cell_at, EventPromise}
use Rattle.monitor.specs.Evening.{calls_of, Reports}
use Rattle.monitor.specs.declared.Evening.{Evening}

-- a fresh start gives 11
abbrev pub fresh_order : List ℕ
fresh_order = 11 ∷ []

pub data FreshRow (sheet : List ℕ) : ℕ → Refusal → Type 0 where
  bad_sheet : BadSheet sheet → FreshRow sheet 11 NoSheet

-- a run on the sheet gives 11 and 12; `room` is the memory's length
abbrev pub stand_order : List ℕ
stand_order = fresh_order ++ (12 ∷ [])

pub data StandRow (sheet : List ℕ) (run : Run) (room : ℕ) : ℕ → Refusal → Type 0 where
  opening : {n : ℕ} {x : Refusal} → FreshRow sheet n x → StandRow sheet run room n x
  state_past : (head_in sheet).states ≤ run.state.0 → StandRow sheet run room 12 BadRun
  held_past : room < run.held → StandRow sheet run room 12 BadRun

-- the cell that an event reads, with its operation and its next state
abbrev pub cell_read : (sheet : List ℕ) → Run → EventNo → ℕ
cell_read sheet run e = cell_at (head_in sheet) sheet run e

abbrev pub operation_read : (sheet : List ℕ) → Run → EventNo → Operation
operation_read sheet run e = operation_of (cell_read sheet run e / 64)

abbrev pub next_read : (sheet : List ℕ) → Run → EventNo → StateNo
next_read sheet run e = state_no (cell_read sheet run e % 64)

-- what is read there gives 14 to 16; `space` is the output's length
abbrev pub cell_order : List ℕ
cell_order = 14 ∷ 15 ∷ 16 ∷ []

pub data CellRow (sheet : List ℕ) (run : Run) (e : EventNo) (room space : ℕ) : ℕ → Refusal → Type 0 where
  operation_3 : cell_read sheet run e / 64 ≡ 3 → CellRow sheet run e room space 14 (Cell run.state e)
  next_past : (head_in sheet).states ≤ cell_read sheet run e % 64 → CellRow sheet run e room space 14 (Cell run.state e)
  memory_full : operation_read sheet run e ≡ Store → room ≤ run.held → CellRow sheet run e room space 15 Memory
  output_short : operation_read sheet run e ≡ Dump → space < run.held + 1 → CellRow sheet run e room space 16 Room

-- one event gives 11 and 12, and, where it is under K, these
abbrev pub event_order : List ℕ
event_order = stand_order ++ cell_order

pub data EventRow (sheet : List ℕ) (run : Run) (e : EventNo) (room space : ℕ) : ℕ → Refusal → Type 0 where
  standing : {n : ℕ} {x : Refusal} → StandRow sheet run room n x → EventRow sheet run e room space n x
  reading : {n : ℕ} {x : Refusal} → e.0 < (head_in sheet).events → CellRow sheet run e room space n x → EventRow sheet run e room space n x

-- an event is ignored exactly when 11 and 12 do not hold and it is K or more; then nothing changes
pub record Ignores (sheet : List ℕ) (run : Run) (e : EventNo) (memory output : List ℕ) (r : Answer) (memory' output' : List ℕ) : Type 0 where
  pub exactly : (r ≡ Ok None) ↔ (NoRow (StandRow sheet run (length memory)) × ((head_in sheet).events ≤ e.0))
  pub memory_kept : r ≡ Ok None → memory' ≡ memory
  pub output_kept : r ≡ Ok None → output' ≡ output

-- the first event that is refused: every one before it is taken or ignored, and its own call, given the unwritten rest of the output, refuses it with x
pub record RefusedAt (sheet : List ℕ) (run : Run) (log memory output : List ℕ) (x : Refusal) : Type 0 where
  pub before : List ℕ
  pub event : ℕ
  pub after : List ℕ
  pub whole : log ≡ before ++ event ∷ after
  pub none_refused : (calls_of sheet run before memory output).verdict ≡ Ok tt
  pub refused : let left = calls_of sheet run before memory output in
      Given (EventRow sheet left.run (event_no event) (length left.memory) (length left.rest)) x event_order

-- an evening gives 19; then, with no event, 11 and 12, else the number of the first event that is refused
abbrev pub evening_order : List ℕ
evening_order = 19 ∷ event_order

pub data EveningRow (sheet : List ℕ) (run : Run) (log memory output : List ℕ) : ℕ → Refusal → Type 0 where
  too_long : 4096 < length log → EveningRow sheet run log memory output 19 Log
  no_event : {n : ℕ} {x : Refusal} → log ≡ [] → StandRow sheet run (length memory) n x → EveningRow sheet run log memory output n x
  event_refused : {n : ℕ} {x : Refusal} → length log ≤ 4096 → RefusedAt sheet run log memory output x → (told_of x).number ≡ n
      → EveningRow sheet run log memory output n x

-- what a refused evening leaves is what the events before the refused one left, by calls of their own of which none was refused: they were taken or ignored;
-- the refused event's own call, given the unwritten rest of the output, refuses it and changes nothing
pub record EveningKept (sheet : List ℕ) (run : Run) (log memory output : List ℕ) (r : Evening) (memory' output' : List ℕ) : Type 0 where
  pub before : List ℕ
  pub after : List ℕ
  pub whole : log ≡ before ++ after
  pub passed : r.taken + r.ignored ≡ length before
  pub left : Reports (calls_of sheet run before memory output) (record r { verdict = Ok tt }) memory' output'
  pub changes_nothing : length log ≤ 4096 → (e : ℕ) (es : List ℕ) → after ≡ e ∷ es → (x : Refusal) → r.verdict ≡ Err x
      → EventPromise sheet r.run (event_no e) memory' (drop r.released output') (Err x) memory' (drop r.released output')
