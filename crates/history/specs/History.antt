-- A history: real calls on one sheet since a fresh start, each of which keeps the promise of one event. Its log has the events taken; refused and ignored
-- ones may stand anywhere between.
-- Assumes nothing.
use Rattle.std.specs.Prelude.{ℕ, ◌≡◌, List, [], ◌∷◌, ◌++◌, length, take, None, Some, Ok, Err}
use Rattle.rule.specs.declared.EventNo.{EventNo}
use Rattle.monitor.specs.Fresh.{start_of}
use Rattle.monitor.specs.Event.{EventPromise}
use Rattle.effects.specs.declared.Run.{Run}
use Rattle.effects.specs.Effects.{Answer}
use Rattle.history.specs.Course.{Entry}

-- what a call adds to the log: nothing where it is ignored or refused
abbrev pub log_after : Answer → ℕ → List Entry → List Entry
log_after (Ok (Some t)) e log = log ++ record { code = e; operation = t.operation } ∷ []
log_after (Ok None) e log = log
log_after (Err r) e log = log

-- the run state after a call
abbrev pub run_after : Answer → Run → Run
run_after (Ok (Some t)) before = t.run
run_after (Ok None) before = before
run_after (Err r) before = before

-- what has been released after a call: the number that it answers, from the front of its output
abbrev pub released_after : Answer → List ℕ → List ℕ → List ℕ
released_after (Ok (Some t)) output released = released ++ take t.released output
released_after (Ok None) output released = released
released_after (Err r) output released = released

-- calls since a fresh start. Each gets the run state that the one before returned, and an output of any length and content;
-- the memory has one length, and between calls its bytes outside the held ones may change
pub data History (sheet : List ℕ) : (log : List Entry) (released : List ℕ) (run : Run) (memory : List ℕ) → Type 0 where
  fresh : (run : Run) (memory : List ℕ) → start_of sheet ≡ Ok run → History sheet [] [] run memory
  call : {log : List Entry} {released : List ℕ} {run : Run} {memory : List ℕ} → History sheet log released run memory
      → (e : EventNo) (output : List ℕ) (r : Answer) (memory' output' : List ℕ) → EventPromise sheet run e memory output r memory' output'
      → History sheet (log_after r e.0 log) (released_after r output' released) (run_after r run) memory'
  others : {log : List Entry} {released : List ℕ} {run : Run} {memory : List ℕ} → History sheet log released run memory
      → (memory' : List ℕ) → length memory' ≡ length memory → take run.held memory' ≡ take run.held memory
      → History sheet log released run memory'

-- a history in which no event was ignored
abbrev pub Heeded : Answer → Type 0
Heeded r = r ≡ Ok None → ⊥

abbrev pub AllHeeded : {sheet : List ℕ} {log : List Entry} {released : List ℕ} {run : Run} {memory : List ℕ} → History sheet log released run memory → Type 0
AllHeeded (fresh run memory s) = Unit {0}
AllHeeded (call h e output r memory' output' p) = AllHeeded h × Heeded r
AllHeeded (others h memory' l t) = AllHeeded h
