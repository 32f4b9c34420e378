-- How the calls from C end: each tells, in its three numbers, what the table of its call says, and a refused one leaves every buffer and the run
-- state as it was.
-- Assumes nothing.
use Prim.Native.Nat.{ℕ}
use native.Mathlib.Omega.{arith}
use mathlib.Core.Path.{◌≡◌, refl}
use mathlib.Core.List.{List}
use lib.ListN.{length}
use Rattle.rule.specs.Drawing.{event_no}
use Rattle.rule.specs.Given.{Table, NoRow, Given, done, refused, Tells, Ends}
use Rattle.rule.specs.Operations.{mark_of}
use Rattle.rule.specs.declared.Operation.{Operation}
use Rattle.rule.specs.declared.Operation.TheVariants.{Halt, Store, Dump}
use Rattle.rule.specs.declared.Refusal.{Refusal}
use Rattle.rule.specs.Putting.{written_told}
use Rattle.book.specs.Finding.{lookup_of, verdict_by}
use Rattle.book.specs.Given.{Finding, find_order}
use Rattle.book.specs.declared.Lookup.{Lookup}
use Rattle.book.specs.declared.Lookup.TheVariants.{Job, Office}
use Rattle.book.proofs.GivenLaws.{find_sound, find_gives}
use Rattle.monitor.specs.Event.{EventPromise}
use Rattle.monitor.specs.Fresh.{start_of}
use Rattle.monitor.specs.Given.{FreshRow, fresh_order, EventRow, event_order, Ignores, EveningRow, evening_order}
use Rattle.monitor.proofs.FreshLaws.{fresh_ends}
use Rattle.monitor.proofs.GivenLaws.{event_ends, event_ignores}
use Rattle.monitor.proofs.EveningGivenLaws.{evening_ends}
use Rattle.effects.specs.Effects.{Answer, answer_told}
use Rattle.effects.specs.declared.Run.{Run}
use Rattle.why.specs.Given.{Asking, why_order}
use Rattle.why.specs.Why.{ground_told}
use Rattle.why.specs.declared.Ground.{Ground}
use Rattle.why.specs.declared.Ground.TheVariants.{Halted, Held, Released}
use Rattle.why.proofs.GivenLaws.{why_ends}
use Rattle.pachallu.specs.Told.{made_of, PutForC, found_of, FindForC, started_of, FreshForC, run_of, answered_of, EventForC}
use Rattle.pachallu.specs.Told.{made_told, found_told, started_told, answered_told, PutKept, FindKept, FreshKept, EventKept}
use Rattle.pachallu.specs.Told.{IgnoresForC, EveningForC, evening_told, EveningKeptForC}
use Rattle.pachallu.specs.Told.{reason_of, WhyForC, reason_told, WhyKept}
use Rattle.pachallu.specs.declared.Made.{Made}
use Rattle.pachallu.specs.declared.Found.{Found}
use Rattle.pachallu.specs.declared.Started.{Started}
use Rattle.pachallu.specs.declared.Answered.{Answered}
use Rattle.pachallu.specs.declared.Evening.{Evening}
use Rattle.pachallu.specs.declared.Reason.{Reason}
use Rattle.rule.specs.Verdict.{Written}
use Rattle.std.specs.Prelude.{Ok, Err, Result, None, Some}

-- a call that puts bytes into an output, by how the call behind it ends
pub c_put_ends : {T : Table} {order : List ℕ} {Promise : Written → List ℕ → Type 0} {out : List ℕ} {r : Made} {out' : List ℕ}
    → ((w : Written) → Promise w out' → Ends T order (written_told w) (out' ≡ out)) → PutForC Promise r out' → Ends T order (made_told r) (PutKept out r out')
c_put_ends {T} {order} {Promise} {out} {r} {out'} ends p = rw p.told (by p.answer (ends p.answer p.promise))
  where
    by : (w : Written) → Ends T order (written_told w) (out' ≡ out) → Ends T order (made_told (made_of w)) (PutKept out (made_of w) out')
    by (Ok n) e = record { tells = e.tells; rest = λ n. absurd (n refl) }
    by (Err x) e = record { tells = e.tells; rest = λ n. record { output_kept = e.rest n; written = refl } }

-- looking a rule up
pub c_find_ends : (job office : List ℕ) (number age : ℕ) {r : Found} → FindForC job office number age r
    → Ends (Finding job office number age) find_order (found_told r) (FindKept r)
c_find_ends job office number age p =
    rw p (by (lookup_of job office number age) (find_sound job office number age).0 (λ x. (find_gives job office number age x).0))
  where
    by : (r : Result Lookup Refusal) → (verdict_by r ≡ Ok tt → NoRow (Finding job office number age))
        → ((x : Refusal) → verdict_by r ≡ Err x → Given (Finding job office number age) x find_order)
        → Ends (Finding job office number age) find_order (found_told (found_of r)) (FindKept (found_of r))
    by (Ok (Job start size)) none given = record { tells = done (none refl); rest = λ n. absurd (n refl) }
    by (Ok (Office start size)) none given = record { tells = done (none refl); rest = λ n. absurd (n refl) }
    by (Err x) none given = record { tells = refused (given x refl); rest = λ n. record { book = refl; start = refl; length = refl } }

-- a fresh start
pub c_fresh_ends : {sheet : List ℕ} {r : Started} → FreshForC sheet r → Ends (FreshRow sheet) fresh_order (started_told r) (FreshKept r)
c_fresh_ends {sheet} p = rw p (by (start_of sheet) (fresh_ends sheet).tells)
  where
    by : (s : Result Run Refusal) → Tells (FreshRow sheet) fresh_order (answer_told s)
        → Ends (FreshRow sheet) fresh_order (started_told (started_of s)) (FreshKept (started_of s))
    by (Ok run) t = record { tells = t; rest = λ n. absurd (n refl) }
    by (Err x) t = record { tells = t; rest = λ n. record { state = refl; held = refl } }

-- one event
pub c_event_ends : {sheet : List ℕ} {state held event : ℕ} {memory output : List ℕ} {r : Answered} {memory' output' : List ℕ}
    → EventForC sheet state held event memory output r memory' output'
    → Ends (EventRow sheet (run_of state held) (event_no event) (length memory) (length output)) event_order (answered_told r)
    (EventKept state held memory output r memory' output')
c_event_ends {sheet} {state} {held} {event} {memory} {output} {r} {memory'} {output'} p = rw p.told (by p.answer p.promise)
  where
    by : (a : Answer) → EventPromise sheet (run_of state held) (event_no event) memory output a memory' output'
        → Ends (EventRow sheet (run_of state held) (event_no event) (length memory) (length output)) event_order
        (answered_told (answered_of a (run_of state held)))
        (EventKept state held memory output (answered_of a (run_of state held)) memory' output')
    by (Ok (Some t)) q =
        record { tells = (event_ends sheet (run_of state held) (event_no event) memory output q).tells; rest = λ n. absurd (n refl) }
    by (Ok None) q = record { tells = (event_ends sheet (run_of state held) (event_no event) memory output q).tells; rest = λ n. absurd (n refl) }
    by (Err x) q =
        let e = event_ends sheet (run_of state held) (event_no event) memory output q in
        record {
          tells = e.tells;
          rest = λ n.
              let k = e.rest n in
              record { memory_kept = k.0; output_kept = k.1; state_kept = refl; held_kept = refl; operation = refl; released = refl };
        }

-- and when it is ignored: no operation that a sheet's cell can have is 3
mark_not_3 : (o : Operation) → mark_of o ≡ 3 → ⊥
mark_not_3 Halt p = omega (arith, p)
mark_not_3 Store p = omega (arith, p)
mark_not_3 Dump p = omega (arith, p)

pub c_event_ignores : {sheet : List ℕ} {state held event : ℕ} {memory output : List ℕ} {r : Answered} {memory' output' : List ℕ}
    → EventForC sheet state held event memory output r memory' output' → IgnoresForC sheet state held event memory output r memory' output'
c_event_ignores {sheet} {state} {held} {event} {memory} {output} {r} {memory'} {output'} p =
    rw p.told (by p.answer (event_ignores sheet (run_of state held) (event_no event) memory output p.promise))
  where
    only : {a : Answer} → Ignores sheet (run_of state held) (event_no event) memory output a memory' output'
        → ((answered_of a (run_of state held)).operation ≡ 3 → a ≡ Ok None)
        → IgnoresForC sheet state held event memory output (answered_of a (run_of state held)) memory' output'
    only {a} i from =
        record {
          exactly = (λ q. i.exactly.0 (from q), λ w. rw (i.exactly.1 w));
          told = λ q. rw (from q);
          memory_kept = λ q. i.memory_kept (from q);
          output_kept = λ q. i.output_kept (from q);
        }

    by : (a : Answer) → Ignores sheet (run_of state held) (event_no event) memory output a memory' output'
        → IgnoresForC sheet state held event memory output (answered_of a (run_of state held)) memory' output'
    by (Ok (Some t)) i = only i (λ q. absurd (mark_not_3 t.operation q))
    by (Ok None) i = only i (λ q. refl)
    by (Err x) i = only i (λ q. absurd (omega (arith, q)))

-- an evening
pub c_evening_ends : {sheet : List ℕ} {state held : ℕ} {log memory output : List ℕ} {r : Evening} {memory' output' : List ℕ}
    → EveningForC sheet state held log memory output r memory' output'
    → Ends (EveningRow sheet (run_of state held) log memory output) evening_order (evening_told r)
    (EveningKeptForC sheet state held log memory output r memory' output')
c_evening_ends {sheet} {state} {held} {log} {memory} {output} {r} {memory'} {output'} p =
    let e = evening_ends sheet (run_of state held) memory output p.answer memory' output' log p.promise in
    rw p.told (record { tells = e.tells; rest = λ n. record { answer = p.answer; told = refl; kept = e.rest n } })

-- why
pub c_why_ends : {rule : List ℕ} {state event : ℕ} {way : List ℕ} {r : Reason} {way' : List ℕ} → WhyForC rule state event way r way'
    → Ends (Asking rule state event (length way)) why_order (reason_told r) (WhyKept way r way')
c_why_ends {rule} {state} {event} {way} {r} {way'} p = rw p.told (by p.answer (why_ends p.promise))
  where
    by : (g : Result Ground Refusal) → Ends (Asking rule state event (length way)) why_order (ground_told g) (way' ≡ way)
        → Ends (Asking rule state event (length way)) why_order (reason_told (reason_of g)) (WhyKept way (reason_of g) way')
    by (Ok (Halted i)) e = record { tells = e.tells; rest = λ n. absurd (n refl) }
    by (Ok (Held i k)) e = record { tells = e.tells; rest = λ n. absurd (n refl) }
    by (Ok Released) e = record { tells = e.tells; rest = λ n. absurd (n refl) }
    by (Err x) e = record { tells = e.tells; rest = λ n. record { way_kept = e.rest n; operation = refl; pair = refl; length = refl } }
