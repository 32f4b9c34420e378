-- An evening is a history: the single calls that it is take any history on, so demand 3 holds of any mix of single calls and evenings since a fresh start.
-- Assumes nothing.
use Prim.Native.Nat.{ℕ, ◌<◌}
use native.Mathlib.Omega.{arith}
use native.Mathlib.Decide.{dec_lt}
use mathlib.Core.List.{List, [], ◌∷◌, ◌++◌, append_assoc, append-nil}
use lib.ListN.{length, take}
use lib.Seq.{take-append_seam}
use Rattle.std.specs.Prelude.{None, Some, Ok, Err}
use Rattle.rule.specs.Drawing.{event_no}
use Rattle.effects.specs.declared.Run.{Run}
use Rattle.monitor.specs.Evening.{Entry, Outcome, evening_of, EveningPromise, Calls, over, refused, ignored, taken}
use Rattle.monitor.specs.declared.Evening.{Evening}
use Rattle.monitor.proofs.CallsLaws.{calls_of_is}
use Rattle.monitor.proofs.EveningGivenLaws.{is_long, is_empty, is_calls}
use Rattle.history.specs.History.{History, call}

-- where a history stands after what calls come to
abbrev After : (sheet : List ℕ) (log : List Entry) (released : List ℕ) → Outcome → Type 0
After sheet log released x = History sheet (log ++ x.taken) (released ++ x.released) x.run x.memory

module _ {sheet : List ℕ} where
  -- where nothing is taken it stands where it stood
  no_more : {log : List Entry} {released : List ℕ} {run : Run} {memory : List ℕ} → History sheet log released run memory
      → History sheet (log ++ []) (released ++ []) run memory
  no_more {log} {released} h = rw (append-nil log, append-nil released) h

  -- single calls one after another take a history on
  pub calls_history : {run : Run} {es memory output : List ℕ} {x : Outcome} → Calls sheet run es memory output x
      → {log : List Entry} {released : List ℕ} → History sheet log released run memory → After sheet log released x
  calls_history over h = no_more h
  calls_history (refused {e = e} {output = output} {x = x} {memory' = memory'} {output' = output'} p) h =
      no_more (call h (event_no e) output (Err x) memory' output' p)
  calls_history (ignored {e = e} {output = output} {memory' = memory'} {output' = output'} p c) h =
      calls_history c (call h (event_no e) output (Ok None) memory' output' p)
  calls_history (taken {e = e} {output = output} {t = t} {memory' = memory'} {output' = output'} {later = later} p c) {log} {released} h =
      let entry : List Entry = record { code = e; operation = t.operation } ∷ [] in
      rw (append_assoc log entry later.taken, append_assoc released (take t.released output') later.released) at
      (calls_history c (call h (event_no e) output (Ok (Some t)) memory' output' p))

  -- and so does an evening
  by_outcome : {log : List Entry} {released : List ℕ} {run : Run} {memory : List ℕ} → History sheet log released run memory
      → (es output : List ℕ) → Dec (4096 < length es) → After sheet log released (evening_of sheet run es memory output)
  by_outcome {run = run} {memory = memory} h es output (yes l) = rw (is_long sheet run memory output es l) (no_more h)
  by_outcome {run = run} {memory = memory} h [] output (no l) = rw (is_empty sheet run memory output) (no_more h)
  by_outcome {run = run} {memory = memory} h (e ∷ es) output (no l) =
      rw (is_calls sheet run memory output e es (omega arith)) (calls_history (calls_of_is sheet run (e ∷ es) memory output) h)

  pub evening_history : {log : List Entry} {released : List ℕ} {run : Run} {memory : List ℕ} → History sheet log released run memory
      → (es output : List ℕ) (r : Evening) (memory' output' : List ℕ) → EveningPromise sheet run es memory output r memory' output'
      → History sheet (log ++ (evening_of sheet run es memory output).taken) (released ++ take r.released output') r.run memory'
  evening_history {run = run} {memory = memory} h es output r memory' output' p =
      let x = evening_of sheet run es memory output in
      rw (p.report, p.memory_after, p.output_after, take-append_seam x.released x.rest) (by_outcome h es output (dec_lt 4096 (length es)))
