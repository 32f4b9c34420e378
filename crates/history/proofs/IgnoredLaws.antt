-- Ignored events may be left out of a history, and may stand anywhere in it: it stands where it stood.
-- Assumes nothing.
use Prim.Native.Nat.{ℕ}
use mathlib.Core.Path.{◌≡◌, ◌∙◌}
use mathlib.Core.List.{List}
use Rattle.std.specs.Prelude.{None, Some, Ok, Err}
use Rattle.rule.specs.declared.EventNo.{EventNo}
use Rattle.effects.proofs.KeptLaws.{ignored_of}
use Rattle.effects.specs.declared.Run.{Run}
use Rattle.effects.specs.Effects.{Answer}
use Rattle.monitor.specs.Event.{turn_of, EventPromise}
use Rattle.history.specs.Course.{Entry}
use Rattle.history.specs.History.{History, fresh, call, others, AllHeeded, log_after, run_after, released_after}

-- the calls of a history without those that were ignored
abbrev Without : (sheet : List ℕ) (log : List Entry) (released : List ℕ) (run : Run) (memory : List ℕ) → Type 0
Without sheet log released run memory = (h : History sheet log released run memory) × AllHeeded h

module _ {sheet : List ℕ} where
  leave : {log : List Entry} {released : List ℕ} {run : Run} {memory : List ℕ} → Without sheet log released run memory
      → (e : EventNo) (output : List ℕ) (r : Answer) (memory' output' : List ℕ) → EventPromise sheet run e memory output r memory' output'
      → Without sheet (log_after r e.0 log) (released_after r output' released) (run_after r run) memory'
  leave w e output (Ok (Some t)) memory' output' p = (call w.0 e output (Ok (Some t)) memory' output' p, (w.1, λ q. cc))
  leave w e output (Err x) memory' output' p = (call w.0 e output (Err x) memory' output' p, (w.1, λ q. cc))
  leave {run = run} {memory = memory} w e output (Ok None) memory' output' p =
      let t = ignored_of (turn_of sheet run e memory output) run.held p.answer in
      let m : memory' ≡ memory = p.memory_after ∙ rw t in
      rw m w

  pub left_out : {log : List Entry} {released : List ℕ} {run : Run} {memory : List ℕ} → History sheet log released run memory
      → Without sheet log released run memory
  left_out (fresh run memory s) = (fresh run memory s, tt)
  left_out (call h e output r memory' output' p) = leave (left_out h) e output r memory' output' p
  left_out (others h memory' l t) = let w = left_out h in (others w.0 memory' l t, w.1)
