-- M-101. An evening of up to 4,096 events in one call: it equals the single calls, each given the unwritten rest of the output; it takes a history on; two are
-- one; and when it refuses. Demand 1 has what a refused one leaves.
-- Assumes nothing: this is a statement. proofs/Evening proves it.
use Rattle.std.specs.Prelude.{ℕ, ◌+◌, ◌≤◌, ◌<◌, ◌≡◌, true, ◌↔◌, List, [], ◌∷◌, ◌++◌, length, take, drop, Ok, Err}
use Rattle.rule.specs.Given.{Given}
use Rattle.rule.specs.Refusals.{told_of, among}
use Rattle.rule.specs.declared.Refusal.{Refusal}
use Rattle.rule.specs.declared.Refusal.TheVariants.{Memory, Room, Log}
use Rattle.rulefile.specs.Layout.{drawing_in}
use Rattle.effects.specs.declared.Run.{Run}
use Rattle.monitor.specs.Evening.{Entry, evening_of, EveningPromise, SingleCalls, both_of}
use Rattle.monitor.specs.Known.{SoFar}
use Rattle.monitor.specs.Given.{StandRow, stand_order}
use Rattle.monitor.specs.declared.Evening.{Evening}
use Rattle.history.specs.History.{History}
use Rattle.demands.specs.Made.{Made}
use Rattle.demands.specs.Demand3.{Demand3}

-- of every call of `events` with these arguments
pub record OfEvenings (sheet : List ℕ) (run : Run) (log memory output : List ℕ) (r : Evening) (memory' output' : List ℕ) : Type 0 where
  -- with an event in the log it is single calls one after another, up to the first refusal, each given the unwritten rest of the output: the report, the
  -- memory and the output are those that such calls leave, and no others
  pub single_calls : (e : ℕ) (es : List ℕ) → log ≡ e ∷ es → length log ≤ 4096
      → SingleCalls sheet run log memory output r memory' output'
  -- a beginning of the log is passed: its events under K are taken and the others ignored, as many as are reported
  pub passed : SoFar sheet log (evening_of sheet run log memory output)
  pub count_taken : r.taken ≡ length (evening_of sheet run log memory output).taken
  pub count_ignored : r.ignored ≡ length (evening_of sheet run log memory output).ignored
  pub count : r.taken + r.ignored ≡ length passed.front
  -- 19 exactly for a log over 4,096 events, ignored ones too, with nothing taken and nothing changed
  pub too_long : (r.verdict ≡ Err Log) ↔ (4096 < length log)
  -- an empty log gives 11 and 12
  pub empty : log ≡ [] → (x : Refusal) → (r.verdict ≡ Err x) ↔ Given (StandRow sheet run (length memory)) x stand_order
  -- 11 and 12 cannot come after the first event
  pub first_only : (x : Refusal) → r.verdict ≡ Err x → among (told_of x).number stand_order ≡ true → (r.taken ≡ 0) × (r.ignored ≡ 0)
  -- a memory, or an output, with a byte for each held event and each event of the log is always enough
  pub memory_enough : run.held + length log ≤ length memory → r.verdict ≡ Err Memory → ⊥
  pub output_enough : run.held + length log ≤ length output → r.verdict ≡ Err Room → ⊥

pub record EveningDemand : Type 0 where
  pub each : (sheet : List ℕ) (run : Run) (log memory output : List ℕ) (r : Evening) (memory' output' : List ℕ)
      → EveningPromise sheet run log memory output r memory' output' → OfEvenings sheet run log memory output r memory' output'
  -- what single calls leave is what the evening promises
  pub only : (sheet : List ℕ) (run : Run) (e : ℕ) (es memory output : List ℕ) → length (e ∷ es) ≤ 4096 → (r : Evening) (memory' output' : List ℕ)
      → SingleCalls sheet run (e ∷ es) memory output r memory' output' → EveningPromise sheet run (e ∷ es) memory output r memory' output'
  -- two evenings, the second on from the first with the rest of its output, are one with both logs, where that is not too long and the first was not refused
  pub two : (sheet : List ℕ) (a b : List ℕ) (run : Run) (memory output : List ℕ) → length (a ++ b) ≤ 4096
      → (r : Evening) (memory₁ output₁ : List ℕ) → EveningPromise sheet run a memory output r memory₁ output₁ → r.verdict ≡ Ok tt
      → (s : Evening) (memory₂ output₂ : List ℕ) → EveningPromise sheet r.run b memory₁ (drop r.released output₁) s memory₂ output₂
      → EveningPromise sheet run (a ++ b) memory output (both_of r s) memory₂ (take r.released output₁ ++ output₂)
  -- an evening takes any history on to a history; so demand 3 holds after any mix of single calls and evenings since a fresh start on a made sheet
  pub history : {sheet : List ℕ} {log : List Entry} {released : List ℕ} {run : Run} {memory : List ℕ} → History sheet log released run memory
      → (es output : List ℕ) (r : Evening) (memory' output' : List ℕ) → EveningPromise sheet run es memory output r memory' output'
      → History sheet (log ++ (evening_of sheet run es memory output).taken) (released ++ take r.released output') r.run memory'
  pub demand_3 : (file sheet : List ℕ) → Made file sheet → {log : List Entry} {released : List ℕ} {run : Run} {memory : List ℕ}
      → History sheet log released run memory
      → (es output : List ℕ) (r : Evening) (memory' output' : List ℕ) → EveningPromise sheet run es memory output r memory' output'
      → Demand3 (drawing_in file) sheet (log ++ (evening_of sheet run es memory output).taken) (released ++ take r.released output') r.run memory'
