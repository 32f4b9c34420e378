-- What one event comes to: classified once, into a move with its operation, ignored, or a refusal; the answer, the memory and the output follow from that
-- (Effects).
-- Assumes nothing.
use Rattle.std.specs.Prelude.{ℕ, ◌/◌, ◌%◌, Bool, cond, ◌||◌, List, length, None, Ok, Err, leb, ltb, eqb}
use Rattle.rule.specs.Drawing.{state_no}
use Rattle.rule.specs.declared.EventNo.{EventNo}
use Rattle.rule.specs.declared.Refusal.TheVariants.{Run as BadRun, Cell}
use Rattle.sheet.specs.Layout.{cell_in, operation_of}
use Rattle.sheet.specs.Opening.{Opened, opened_of}
use Rattle.sheet.specs.declared.Head.{Head}
use Rattle.effects.specs.Effects.{Turn, Answer, move, room_turn, TurnPromise}
use Rattle.effects.specs.declared.Run.{Run}

-- 14: the cell read has operation 3 or next state >= N
unfoldable pub cell_turn : (cell states : ℕ) → Run → EventNo → Turn
cell_turn cell states run e =
    cond (eqb (cell / 64) 3 || leb states (cell % 64)) (Err (Cell run.state e))
    (move (operation_of (cell / 64)) (state_no (cell % 64)))

-- the cell of the run's state and the event
abbrev pub cell_at : Head → (sheet : List ℕ) → Run → EventNo → ℕ
cell_at h sheet run e = cell_in h sheet run.state.0 e.0

-- 12: state >= N, or more held than the memory is long
abbrev pub unfit : Head → Run → (room : ℕ) → Bool
unfit h run room = leb h.states run.state.0 || ltb room run.held

-- 12; an event from K on is ignored; then what the cell says
unfoldable pub look_of : Head → (sheet : List ℕ) → Run → EventNo → (room : ℕ) → Turn
look_of h sheet run e room =
    cond (unfit h run room) (Err BadRun)
    (cond (leb h.events e.0) (Ok None)
    (cell_turn (cell_at h sheet run e) h.states run e))

-- what an event comes to on an opened sheet
abbrev pub step_turn : Head → (sheet : List ℕ) → Run → EventNo → (memory output : List ℕ) → Turn
step_turn h sheet run e memory output =
    room_turn (look_of h sheet run e (length memory)) run.held (length memory) (length output)

-- what an event comes to; 11: the sheet is refused, and the event is not looked at
abbrev pub turn_by : Opened → (sheet : List ℕ) → Run → EventNo → (memory output : List ℕ) → Turn
turn_by (Ok h) sheet run e memory output = step_turn h sheet run e memory output
turn_by (Err x) sheet run e memory output = Err x

abbrev pub turn_of : (sheet : List ℕ) → Run → EventNo → (memory output : List ℕ) → Turn
turn_of sheet run e memory output = turn_by (opened_of sheet) sheet run e memory output

-- the promise of one event on an opened sheet
abbrev pub StepPromise : Head → (sheet : List ℕ) → Run → EventNo → (memory output : List ℕ) → Answer → (memory' output' : List ℕ) → Type 0
StepPromise h sheet run e memory output r memory' output' =
    TurnPromise (step_turn h sheet run e memory output) run e memory output r memory' output'

-- the promise of one event
abbrev pub EventPromise : (sheet : List ℕ) → Run → EventNo → (memory output : List ℕ) → Answer → (memory' output' : List ℕ) → Type 0
EventPromise sheet run e memory output r memory' output' =
    TurnPromise (turn_of sheet run e memory output) run e memory output r memory' output'
