-- Leaving the events from K on out of a log changes nothing but how many were ignored.
-- Assumes nothing.
use Prim.Native.Nat.{ℕ, ◌≤◌, ◌<◌}
use native.Mathlib.Omega.{arith}
use mathlib.Core.Path.{◌≡◌, refl, sym, ap, ◌∙◌}
use mathlib.Core.Bool.{Bool, true, false, cond}
use mathlib.Core.List.{List, [], ◌∷◌, ◌++◌}
use lib.Dec.{ltb}
use lib.ListN.{length, take, drop}
use borrow.Author.Tests.{ltb-true, ltb-false}
use Rattle.std.specs.Prelude.{None, Some, Ok, Err}
use Rattle.rule.specs.Drawing.{event_no}
use Rattle.rule.specs.Verdict.{Verdict}
use Rattle.rule.proofs.TableLaws.{sound_exactly}
use Rattle.sheet.specs.Layout.{head_in}
use Rattle.sheet.specs.Opening.{opened_of}
use Rattle.effects.specs.declared.Run.{Run}
use Rattle.effects.specs.Effects.{Answer}
use Rattle.monitor.specs.Event.{EventPromise}
use Rattle.monitor.specs.Evening.{Outcome, joined, go_on, calls_of, stands_by, short_evening, evening_of, report_of, EveningPromise}
use Rattle.monitor.specs.Known.{known, heard, uncounted, ignoring}
use Rattle.monitor.specs.declared.Evening.{Evening}
use Rattle.monitor.proofs.CallsLaws.{later, calls_more, kept_by_turn}
use Rattle.monitor.proofs.GivenLaws.{stand_within, stand_rows, ignored_when, event_ignores}
use Rattle.monitor.proofs.EveningLaws.{is_short, stands, stands_not}
use Rattle.monitor.proofs.FirstLaws.{taken_stands}
use Rattle.monitor.proofs.EveningGivenLaws.{parts_long}

module _ (sheet : List ℕ) where
  abbrev K : ℕ
  K = (head_in sheet).events

  abbrev Stands : Run → (memory : List ℕ) → Type 0
  Stands run memory = stands_by (opened_of sheet) run (length memory) ≡ Ok tt

  -- from a run that 11 and 12 do not refuse the call of an event from K on ignores it
  pub ignores_past : (run : Run) (e : ℕ) (memory output : List ℕ) → Stands run memory → K ≤ e
      → EventPromise sheet run (event_no e) memory output (Ok None) memory output
  ignores_past run e memory output s k =
      let none = (sound_exactly (stand_within sheet run (length memory)) (stand_rows sheet run (length memory))).0 s in
      let t = (ignored_when sheet run (event_no e) memory output).1 (none, k) in
      record { answer = rw t; memory_after = rw t; output_after = rw t }

  -- single calls
  abbrev Heard : List ℕ → Type 0
  Heard es = (run : Run) (memory output : List ℕ) → Stands run memory
      → calls_of sheet run (heard sheet es) memory output ≡ uncounted (calls_of sheet run es memory output)

  heard_under : (e : ℕ) (es : List ℕ) → e < K → Heard es → (run : Run) (memory output : List ℕ) → (r : Answer) (memory' output' : List ℕ)
      → EventPromise sheet run (event_no e) memory output r memory' output'
      → go_on r e run memory' output' (later sheet (heard sheet es)) ≡ uncounted (go_on r e run memory' output' (later sheet es))
  heard_under e es k go run memory output (Err x) memory' output' p = refl
  heard_under e es k go run memory output (Ok None) memory' output' p =
      absurd (omega (arith, k, ((event_ignores sheet run (event_no e) memory output p).exactly.0 refl).1))
  heard_under e es k go run memory output (Ok (Some t)) memory' output' p =
      ap (joined (record { code = e; operation = t.operation } ∷ []) (take t.released output') [])
      (go t.run memory' (drop t.released output') (taken_stands sheet run e memory output t memory' output' p))

  heard_by : (e : ℕ) (es : List ℕ) (b : Bool) → ltb e K ≡ b → Heard es → (run : Run) (memory output : List ℕ) → Stands run memory
      → calls_of sheet run (cond b (e ∷ heard sheet es) (heard sheet es)) memory output ≡ uncounted (calls_of sheet run (e ∷ es) memory output)
  heard_by e es true q go run memory output s =
      let p = kept_by_turn sheet run e memory output in
      calls_more sheet run e (heard sheet es) memory output _ _ _ p
      ∙ heard_under e es (ltb-true e K q) go run memory output _ _ _ p
      ∙ ap uncounted (sym (calls_more sheet run e es memory output _ _ _ p))
  heard_by e es false q go run memory output s =
      go run memory output s
      ∙ ap uncounted (sym (calls_more sheet run e es memory output (Ok None) memory output (ignores_past run e memory output s (ltb-false e K q))))

  pub calls_heard : (es : List ℕ) → Heard es
  unfolding calls_of known
  calls_heard [] run memory output s = refl
  calls_heard (e ∷ es) run memory output s = heard_by e es (ltb e K) refl (calls_heard es) run memory output s

  -- an evening, and two with the same events under K
  heard_long : (log : List ℕ) → length (heard sheet log) ≤ length log
  heard_long log = omega (arith, parts_long K log)

  pub evening_heard : (run : Run) (log memory output : List ℕ) → length log ≤ 4096
      → evening_of sheet run (heard sheet log) memory output ≡ uncounted (evening_of sheet run log memory output)
  evening_heard run log memory output short = by (stands_by (opened_of sheet) run (length memory)) refl
    where
      one : evening_of sheet run (heard sheet log) memory output ≡ short_evening sheet run (heard sheet log) memory output
      one = is_short sheet run (heard sheet log) memory output (omega (arith, short, heard_long log))

      two : evening_of sheet run log memory output ≡ short_evening sheet run log memory output
      two = is_short sheet run log memory output short

      by : (v : Verdict) → stands_by (opened_of sheet) run (length memory) ≡ v
          → evening_of sheet run (heard sheet log) memory output ≡ uncounted (evening_of sheet run log memory output)
      by (Ok tt) s =
          one ∙ stands sheet run memory output s (heard sheet log) ∙ calls_heard log run memory output s
          ∙ ap uncounted (sym (two ∙ stands sheet run memory output s log))
      by (Err x) s = one ∙ stands_not sheet run memory output s (heard sheet log) ∙ ap uncounted (sym (two ∙ stands_not sheet run memory output s log))

  pub same_heard : (run : Run) (a b memory output : List ℕ) → length a ≤ 4096 → length b ≤ 4096 → heard sheet a ≡ heard sheet b
      → (r : Evening) (memory₁ output₁ : List ℕ) → EveningPromise sheet run a memory output r memory₁ output₁
      → (s : Evening) (memory₂ output₂ : List ℕ) → EveningPromise sheet run b memory output s memory₂ output₂
      → (r ≡ ignoring r.ignored s) × (memory₁ ≡ memory₂) × (output₁ ≡ output₂)
  same_heard run a b memory output l m h r memory₁ output₁ p s memory₂ output₂ q =
      let x = evening_of sheet run a memory output in
      let u : uncounted x ≡ uncounted (evening_of sheet run b memory output) =
      sym (evening_heard run a memory output l) ∙ ap (λ (es : List ℕ). evening_of sheet run es memory output) h ∙ evening_heard run b memory output m in (
        rw (p.report, q.report) (ap (λ (y : Outcome). ignoring (length x.ignored) (report_of y)) u),
        p.memory_after ∙ ap (λ (y : Outcome). y.memory) u ∙ sym q.memory_after,
        p.output_after ∙ ap (λ (y : Outcome). y.released ++ y.rest) u ∙ sym q.output_after,
      )
