-- What a C program does that follows include/pachallu.h: it makes a sheet, starts a run on it, and offers events, singly or an evening of them in one call,
-- each with the numbers that the call before returned. All of it is said in the numbers that C sees.
-- Assumes nothing.
use Rattle.std.specs.Prelude.{ℕ, ◌≡◌, cond, not, ◌&&◌, List, [], ◌∷◌, ◌++◌, length, take, eqb}
use Rattle.sheet.specs.Layout.{operation_of}
use Rattle.monitor.specs.Evening.{evening_of}
use Rattle.history.specs.Course.{Entry}
use Rattle.pachallu.specs.Told.{MakeForC, FreshForC, EventForC, EveningForC, run_of}
use Rattle.pachallu.specs.declared.Made.{Made}
use Rattle.pachallu.specs.declared.Started.{Started}
use Rattle.pachallu.specs.declared.Answered.{Answered}
use Rattle.pachallu.specs.declared.Evening.{Evening}

-- the sheet is the first `written` bytes that `pachallu_make` left, refusal 0
pub record MadeForC (file sheet : List ℕ) : Type 0 where
  pub out : List ℕ
  pub out' : List ℕ
  pub made : Made
  pub promise : MakeForC file out made out'
  pub done : made.refusal ≡ 0
  pub front : sheet ≡ take made.written out'

-- what a call adds to the log: with refusal 0 and an operation that is not 3 its event and operation, else nothing
abbrev pub log_with : Answered → ℕ → List Entry → List Entry
log_with r e log = cond (eqb r.refusal 0 && not (eqb r.operation 3)) (log ++ record { code = e; operation = operation_of r.operation } ∷ []) log

-- any mix of calls of `pachallu_event` and `pachallu_events` since a `pachallu_fresh` with refusal 0. Each gets the state and the held number that the one
-- before returned, and an output of any length and content; the memory has one length, and between calls its bytes outside the held ones may change.
-- An evening adds the events that it took, with the operations that the single calls answer; refused and ignored calls may stand anywhere between
pub data HistoryForC (sheet : List ℕ) : (log : List Entry) (released : List ℕ) (state held : ℕ) (memory : List ℕ) → Type 0 where
  fresh : (r : Started) (memory : List ℕ) → FreshForC sheet r → r.refusal ≡ 0 → HistoryForC sheet [] [] r.state r.held memory
  call : {log : List Entry} {released : List ℕ} {state held : ℕ} {memory : List ℕ} → HistoryForC sheet log released state held memory
      → (e : ℕ) (output : List ℕ) (r : Answered) (memory' output' : List ℕ) → EventForC sheet state held e memory output r memory' output'
      → HistoryForC sheet (log_with r e log) (released ++ take r.released output') r.state r.held memory'
  evening : {log : List Entry} {released : List ℕ} {state held : ℕ} {memory : List ℕ} → HistoryForC sheet log released state held memory
      → (es output : List ℕ) (r : Evening) (memory' output' : List ℕ) → EveningForC sheet state held es memory output r memory' output'
      → HistoryForC sheet (log ++ (evening_of sheet (run_of state held) es memory output).taken) (released ++ take r.released output')
      r.state r.held memory'
  others : {log : List Entry} {released : List ℕ} {state held : ℕ} {memory : List ℕ} → HistoryForC sheet log released state held memory
      → (memory' : List ℕ) → length memory' ≡ length memory → take held memory' ≡ take held memory
      → HistoryForC sheet log released state held memory'
