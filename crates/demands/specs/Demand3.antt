-- DEMAND 3. For any accepted rule and any codes taken since a fresh start: what was released is the longest beginning that the drawn rule accepts;
-- released then held is everything taken before the first halt; it halts only where nothing, so far or longer, could be accepted,
-- and with one accepting pair, or in joint mode with any number, at every such point. After a halt every event under K is taken and answered halt.
--
-- It speaks of one sheet that `make` made from a rule file, and of any history of calls on it (crate history, specs/History): each call keeps the
-- promise of one event and gets the run state that the call before returned; refused and ignored events are not taken, so it reads over the others
-- (specs/Ignored); the memory has one length.
-- An evening of events in one call takes a history on as its single calls do (specs/Evening), so it holds of any mix of the two.
-- Assumes nothing: this is a statement. proofs/Demand3 proves it.
use Rattle.std.specs.Prelude.{ℕ, ◌≤◌, ◌<◌, ◌≡◌, true, ◌⊎◌, List, [], ◌∷◌, ◌++◌, length, take, Some, Ok}
use Rattle.rule.specs.Drawing.{Drawing, events, count, next, state_no}
use Rattle.rule.specs.Acceptance.{accepts, Hopeless}
use Rattle.rule.specs.declared.EventNo.{EventNo}
use Rattle.rule.specs.declared.Operation.TheVariants.{Halt}
use Rattle.monitor.specs.Event.{EventPromise}
use Rattle.effects.specs.declared.Run.{Run}
use Rattle.effects.specs.Effects.{Answer}
use Rattle.history.specs.Course.{Entry, codes, before_halt}

-- an event that was answered halt
abbrev pub halting : ℕ → Entry
halting e = record { code = e; operation = Halt }

-- the demand, of a drawn rule, its sheet, and where a history on it stands
pub record Demand3 (d : Drawing) (sheet : List ℕ) (log : List Entry) (released : List ℕ) (run : Run) (memory : List ℕ) : Type 0 where
  -- what was released is a beginning of what was taken, the rule accepts it, and it accepts no longer one
  pub rest : List ℕ
  pub beginning : codes log ≡ released ++ rest
  pub accepted : accepts d released ≡ true
  pub longest : (p s : List ℕ) → codes log ≡ p ++ s → accepts d p ≡ true → length p ≤ length released
  -- released then held is everything taken before the first halt
  pub whole : released ++ take run.held memory ≡ before_halt log
  -- it halts only where nothing, so far or longer, could be accepted
  pub halts_only : (before after : List Entry) (e : ℕ) → log ≡ before ++ halting e ∷ after → Hopeless (events d) (accepts d) (codes before ++ e ∷ [])
  -- and with one accepting pair, or in joint mode with any number of them, at every such point
  pub every_point : (d.shape.mode ≡ 1) ⊎ (count d ≡ 1) → (before after : List Entry) (x : Entry) → log ≡ before ++ x ∷ after
      → Hopeless (events d) (accepts d) (codes before ++ x.code ∷ []) → x.operation ≡ Halt
  -- after a halt every event under K is taken and answered halt
  pub halted : (before after : List Entry) (c : ℕ) → log ≡ before ++ halting c ∷ after
      → (e : EventNo) → e.0 < events d → (output : List ℕ) (r : Answer) (memory' output' : List ℕ) → EventPromise sheet run e memory output r memory' output'
      → r ≡ Ok (Some (record { operation = Halt; run = record { state = state_no (next d run.state.0 e.0); held = run.held }; released = 0 }))
