-- Each return of the calls for C: the answer behind it, told in numbers.
-- Assumes nothing.
use Prim.Native.Nat.{ℕ}
use mathlib.Core.Path.{◌≡◌, sym, ◌∙◌}
use mathlib.Core.List.{List}
use Rattle.rule.specs.Drawing.{event_no}
use Rattle.rule.specs.Operations.{mark_of}
use Rattle.rule.specs.Refusals.{told_of, verdict_told}
use Rattle.rule.specs.declared.Operation.{Operation}
use Rattle.rule.specs.declared.Operation.TheVariants.{Halt, Store, Dump}
use Rattle.rule.specs.declared.Refusal.{Refusal}
use Rattle.rule.specs.declared.Told.{Told}
use Rattle.rule.specs.Verdict.{Written}
use Rattle.book.specs.Finding.{lookup_of}
use Rattle.book.specs.declared.Lookup.{Lookup}
use Rattle.book.specs.declared.Lookup.TheVariants.{Job, Office}
use Rattle.monitor.specs.Fresh.{start_of}
use Rattle.monitor.specs.Event.{EventPromise}
use Rattle.monitor.specs.Evening.{EveningPromise}
use Rattle.monitor.specs.declared.Evening.{Evening}
use Rattle.effects.specs.declared.Run.{Run}
use Rattle.effects.specs.Effects.{Answer}
use Rattle.effects.specs.declared.Taken.{Taken}
use Rattle.why.specs.Why.{WhyPromise}
use Rattle.why.specs.declared.Ground.{Ground}
use Rattle.why.specs.declared.Ground.TheVariants.{Halted, Held, Released}
use Rattle.pachallu.specs.Told.{made_of, FindForC, FreshForC, EventForC, EveningForC, reason_by, WhyForC, run_of}
use Rattle.pachallu.specs.declared.Reason.{Reason}
use Rattle.std.specs.Prelude.{Ok, Err, Result, None, Some}

-- putting bytes that is refused
pub made_refused : {w : Written} {x : Refusal} {t : Told} → w ≡ Err x → t ≡ told_of x
    → record { refusal = t.number; a = t.a; b = t.b; written = 0 } ≡ made_of w
made_refused q e = rw (q, e)

-- looking a rule up
module _ (job office : List ℕ) (number age : ℕ) {r : Result Lookup Refusal} (is : r ≡ lookup_of job office number age) where
  pub found_in_job : {start size : ℕ} → r ≡ Ok (Job start size)
      → FindForC job office number age (record { refusal = 0; a = 0; b = 0; book = 0; start = start; length = size })
  found_in_job e = rw (sym is ∙ e)

  pub found_in_office : {start size : ℕ} → r ≡ Ok (Office start size)
      → FindForC job office number age (record { refusal = 0; a = 0; b = 0; book = 1; start = start; length = size })
  found_in_office e = rw (sym is ∙ e)

  pub not_found : {x : Refusal} {t : Told} → r ≡ Err x → t ≡ told_of x
      → FindForC job office number age (record { refusal = t.number; a = t.a; b = t.b; book = 0; start = 0; length = 0 })
  not_found e q = rw (sym is ∙ e, q)

-- a fresh start
pub start_sound : (sheet : List ℕ) {s : Result Run Refusal} {run : Run} → s ≡ start_of sheet → s ≡ Ok run
    → FreshForC sheet (record { refusal = 0; a = 0; b = 0; state = run.state.0; held = run.held })
start_sound sheet p q = rw (← p, q)

pub start_refused : (sheet : List ℕ) {s : Result Run Refusal} {x : Refusal} {t : Told} → s ≡ start_of sheet → s ≡ Err x → t ≡ told_of x
    → FreshForC sheet (record { refusal = t.number; a = t.a; b = t.b; state = 0; held = 0 })
start_refused sheet p q e = rw (← p, q, e)

-- one event
module _ {sheet memory output memory' output' : List ℕ} {state held code : ℕ} {r : Answer} where
  pub event_taken : {taken : Taken} {mark : ℕ} → EventPromise sheet (run_of state held) (event_no code) memory output r memory' output'
      → r ≡ Ok (Some taken) → mark ≡ mark_of taken.operation
      → EventForC sheet state held code memory output
      (record { refusal = 0; a = 0; b = 0; operation = mark; state = taken.run.state.0; held = taken.run.held; released = taken.released }) memory' output'
  event_taken p q e = record { answer = r; promise = p; told = rw (q, e) }

  pub event_ignored : EventPromise sheet (run_of state held) (event_no code) memory output r memory' output' → r ≡ Ok None
      → EventForC sheet state held code memory output
      (record { refusal = 0; a = 0; b = 0; operation = 3; state = state; held = held; released = 0 }) memory' output'
  event_ignored p q = record { answer = r; promise = p; told = rw q }

  pub event_refused : {x : Refusal} {t : Told} → EventPromise sheet (run_of state held) (event_no code) memory output r memory' output'
      → r ≡ Err x → t ≡ told_of x
      → EventForC sheet state held code memory output
      (record { refusal = t.number; a = t.a; b = t.b; operation = 0; state = state; held = held; released = 0 }) memory' output'
  event_refused p q e = record { answer = r; promise = p; told = rw (q, e) }

-- an evening
pub evening_told_is : {sheet log memory output memory' output' : List ℕ} {state held : ℕ} {r : Evening} {t : Told}
    → EveningPromise sheet (run_of state held) log memory output r memory' output' → t ≡ verdict_told r.verdict
    → EveningForC sheet state held log memory output
    (record {
      refusal = t.number;
      a = t.a;
      b = t.b;
      state = r.run.state.0;
      held = r.run.held;
      taken = r.taken;
      released = r.released;
      ignored = r.ignored;
    }) memory' output'
evening_told_is {r = r} p e = record { answer = r; promise = p; told = rw e }

-- why
pub reason_is : (o : Operation) (pair length mark : ℕ) → mark ≡ mark_of o
    → record { refusal = 0; a = 0; b = 0; operation = mark; pair = pair; length = length } ≡ reason_by o pair length
reason_is o pair length mark e = rw e

module _ {rule way way' : List ℕ} {state event : ℕ} {g : Result Ground Refusal} (p : WhyPromise rule state event way g way') where
  pub why_halted : {i : ℕ} {r : Reason} → g ≡ Ok (Halted i) → r ≡ reason_by Halt i 0 → WhyForC rule state event way r way'
  why_halted q e = record { answer = g; promise = p; told = rw q e }

  pub why_held : {i n : ℕ} {r : Reason} → g ≡ Ok (Held i n) → r ≡ reason_by Store i n → WhyForC rule state event way r way'
  why_held q e = record { answer = g; promise = p; told = rw q e }

  pub why_released : {r : Reason} → g ≡ Ok Released → r ≡ reason_by Dump 0 0 → WhyForC rule state event way r way'
  why_released q e = record { answer = g; promise = p; told = rw q e }

  pub why_refused : {x : Refusal} {t : Told} → g ≡ Err x → t ≡ told_of x
      → WhyForC rule state event way (record { refusal = t.number; a = t.a; b = t.b; operation = 0; pair = 0; length = 0 }) way'
  why_refused q e = record { answer = g; promise = p; told = rw (q, e) }
