-- M-104. Codes that are not the rule's business: an event from K on is ignored, so demand 3 reads over the others. Demand 1 has when an event is ignored, with
-- its whole answer and the buffers; specs/Evening has what an evening ignores.
-- Assumes nothing: this is a statement. proofs/Ignored proves it.
use Rattle.std.specs.Prelude.{ℕ, ◌≤◌, ◌≡◌, List, length, None, Ok}
use Rattle.rule.specs.Drawing.{events}
use Rattle.rule.specs.declared.EventNo.{EventNo}
use Rattle.rulefile.specs.Layout.{drawing_in}
use Rattle.sheet.specs.Opening.{opened_of}
use Rattle.effects.specs.declared.Run.{Run}
use Rattle.effects.specs.Effects.{Answer}
use Rattle.monitor.specs.Event.{EventPromise}
use Rattle.monitor.specs.Evening.{calls_of, stands_by, evening_of, EveningPromise}
use Rattle.monitor.specs.Known.{heard, uncounted, ignoring}
use Rattle.monitor.specs.declared.Evening.{Evening}
use Rattle.history.specs.Course.{Entry}
use Rattle.history.specs.History.{History, AllHeeded}
use Rattle.demands.specs.Made.{Made}

pub record IgnoredDemand : Type 0 where
  -- ignored events may stand anywhere in a history: at every point of one on a made sheet, also after a halt, every event from K on is ignored and nothing
  -- changes;
  pub anywhere : (file sheet : List ℕ) → Made file sheet → {log : List Entry} {released : List ℕ} {run : Run} {memory : List ℕ}
      → History sheet log released run memory → (e : EventNo) → events (drawing_in file) ≤ e.0
      → (output : List ℕ) (r : Answer) (memory' output' : List ℕ) → EventPromise sheet run e memory output r memory' output'
      → (r ≡ Ok None) × (memory' ≡ memory) × (output' ≡ output)
  -- and they may be left out of it: where it stands there is a history in which none was ignored
  pub left_out : {sheet : List ℕ} {log : List Entry} {released : List ℕ} {run : Run} {memory : List ℕ} → History sheet log released run memory
      → (h : History sheet log released run memory) × AllHeeded h
  -- single calls one after another, from a run that 11 and 12 do not refuse: leaving the events from K on out of the log changes nothing but the events ignored
  pub calls : (sheet : List ℕ) (run : Run) (log memory output : List ℕ) → stands_by (opened_of sheet) run (length memory) ≡ Ok tt
      → calls_of sheet run (heard sheet log) memory output ≡ uncounted (calls_of sheet run log memory output)
  -- an evening of at most 4,096 events, from any run: the same,
  pub evening : (sheet : List ℕ) (run : Run) (log memory output : List ℕ) → length log ≤ 4096
      → evening_of sheet run (heard sheet log) memory output ≡ uncounted (evening_of sheet run log memory output)
  -- so two with the same events under K report the same but for the number ignored, and leave the same bytes
  pub same : (sheet : List ℕ) (run : Run) (a b memory output : List ℕ) → length a ≤ 4096 → length b ≤ 4096 → heard sheet a ≡ heard sheet b
      → (r : Evening) (memory₁ output₁ : List ℕ) → EveningPromise sheet run a memory output r memory₁ output₁
      → (s : Evening) (memory₂ output₂ : List ℕ) → EveningPromise sheet run b memory output s memory₂ output₂
      → (r ≡ ignoring r.ignored s) × (memory₁ ≡ memory₂) × (output₁ ≡ output₂)
