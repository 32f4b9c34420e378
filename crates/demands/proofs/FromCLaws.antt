-- The calls of a C program are a history, and the sheet that it makes is a made one. Assumes nothing.
use Prim.Native.Nat.{ℕ}
use native.Mathlib.Omega.{arith}
use mathlib.Core.Path.{◌≡◌, refl, sym, ap, ◌∙◌}
use mathlib.Core.Bool.{false}
use mathlib.Core.List.{List, [], ◌++◌, append-nil}
use lib.ListN.{take}
use borrow.Author.Tests.{ne_eqb}
use Rattle.std.specs.Prelude.{Some, None, Ok, Err}
use Rattle.rule.specs.Drawing.{event_no}
use Rattle.rule.specs.Refusals.{told_of, among, Numbered}
use Rattle.rule.specs.Verdict.{Written}
use Rattle.rule.specs.declared.Refusal.{Refusal}
use Rattle.rule.proofs.BoolLaws.{clash}
use Rattle.rulefile.specs.Reading.{verdict_on}
use Rattle.rule.proofs.PutLaws.{put_numbered}
use Rattle.rulefile.proofs.GivenLaws.{file_gives}
use Rattle.making.specs.Making.{MakePromise}
use Rattle.sheet.specs.Opening.{Opened, opened_of}
use Rattle.sheet.proofs.OpeningLaws.{refused_when}
use Rattle.monitor.specs.Fresh.{start_by}
use Rattle.monitor.specs.Event.{turn_of, EventPromise}
use Rattle.monitor.proofs.GivenLaws.{turn_refuses}
use Rattle.effects.proofs.KeptLaws.{away_of}
use Rattle.effects.specs.Effects.{Answer}
use Rattle.history.specs.Course.{Entry}
use Rattle.history.specs.History.{History, fresh, call, others}
use Rattle.history.proofs.HistoryLaws.{mark_back, mark_known}
use Rattle.history.proofs.EveningLaws.{evening_history}
use Rattle.pachallu.specs.Told.{made_of, started_of, answered_of, run_of}
use Rattle.pachallu.specs.declared.Made.{Made as CMade}
use Rattle.pachallu.specs.declared.Started.{Started}
use Rattle.demands.specs.Made.{Made}
use Rattle.demands.specs.FromC.{MadeForC, log_with, HistoryForC}
use Rattle.demands.specs.FromC as c

-- a number of an order that has no 0 is not 0
pub no_zero : {order : List ℕ} {x : Refusal} → among 0 order ≡ false → Numbered order x → (told_of x).number ≡ 0 → ⊥
no_zero {order} none n e = clash (rw e at n.one_of) none

pub c_made : {file sheet : List ℕ} → MadeForC file sheet → Made file sheet
c_made {file} {sheet} m = by m.promise.answer m.promise.promise m.promise.told
  where
    by : (w : Written) → MakePromise file m.out w m.out' → m.made ≡ made_of w → Made file sheet
    by (Ok n) p t =
        record {
          out = m.out;
          out' = m.out';
          size = n;
          promise = p;
          front = m.front ∙ ap (λ (x : CMade). take x.written m.out') t;
        }
    by (Err x) p t =
        absurd (no_zero refl (put_numbered (verdict_on file) (file_gives file) _ _ x (sym p.answer)) (sym (ap (λ (y : CMade). y.refusal) t) ∙ m.done))

-- what each call adds, by the answer behind it
c_call : {sheet : List ℕ} {log : List Entry} {released : List ℕ} {state held : ℕ} {memory : List ℕ} → History sheet log released (run_of state held) memory
    → (e : ℕ) (output memory' output' : List ℕ) (a : Answer) → EventPromise sheet (run_of state held) (event_no e) memory output a memory' output'
    → let r = answered_of a (run_of state held) in History sheet (log_with r e log) (released ++ take r.released output') (run_of r.state r.held) memory'
c_call {log = log} {released = released} h e output memory' output' (Ok None) p =
    rw (append-nil released) (call h (event_no e) output (Ok None) memory' output' p)
c_call {log = log} h e output memory' output' (Ok (Some t)) p =
    rw (mark_known t.operation, mark_back t.operation) (call h (event_no e) output (Ok (Some t)) memory' output' p)
c_call {sheet} {log} {released} {state} {held} {memory} h e output memory' output' (Err x) p =
    let run = run_of state held in
    let turn = turn_of sheet run (event_no e) memory output in
    let a = away_of turn held x p.answer in
    let n = no_zero refl (turn_refuses sheet run (event_no e) memory output x a) in
    rw (ne_eqb (told_of x).number 0 n, append-nil) (call h (event_no e) output (Err x) memory' output' p)

pub c_history : {sheet : List ℕ} {log : List Entry} {released : List ℕ} {state held : ℕ} {memory : List ℕ}
    → HistoryForC sheet log released state held memory → History sheet log released (run_of state held) memory
c_history {sheet} (c.fresh r memory p z) = by (opened_of sheet) refl p
  where
    by : (o : Opened) → opened_of sheet ≡ o → r ≡ started_of (start_by o) → History sheet [] [] (run_of r.state r.held) memory
    by (Ok h) q t = rw t (fresh (run_of h.initial.0 0) memory (rw q))
    by (Err x) q t =
        let n : (told_of x).number ≡ 11 = rw (← ((refused_when sheet x).0 q).1) refl in
        let e : r.refusal ≡ (told_of x).number = ap (λ (s : Started). s.refusal) t in
        absurd (omega (arith, e, n, z))
c_history (c.call h e output r memory' output' p) = rw p.told (c_call (c_history h) e output memory' output' p.answer p.promise)
c_history (c.evening h es output r memory' output' p) = rw p.told (evening_history (c_history h) es output p.answer memory' output' p.promise)
c_history (c.others h memory' l t) = others (c_history h) memory' l t
