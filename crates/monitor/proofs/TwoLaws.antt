-- An evening is its single calls and nothing else; two evenings, the second on from the first, are one.
-- Assumes nothing.
use Prim.Native.Nat.{ℕ, ◌≤◌, ◌<◌}
use native.Mathlib.Omega.{arith}
use native.Mathlib.Decide.{dec_lt}
use mathlib.Core.Path.{◌≡◌, sym, ap, ◌∙◌}
use mathlib.Core.List.{List, ◌∷◌, ◌++◌, append_assoc}
use mathlib.Core.Logic.{◌↔◌}
use lib.ListN.{length, take, drop, length-append}
use lib.Seq.{take-append_seam, drop-append_seam}
use Rattle.std.specs.Prelude.{Ok}
use Rattle.rule.proofs.RefusalLaws.{not_both, sound_or}
use Rattle.sheet.specs.Opening.{opened_of}
use Rattle.effects.specs.declared.Run.{Run}
use Rattle.monitor.specs.Evening.{Outcome, joined, calls_of, stands_by, evening_of, Reports, EveningPromise, SingleCalls, both_of}
use Rattle.monitor.specs.declared.Evening.{Evening}
use Rattle.monitor.proofs.CallsLaws.{calls_are, calls_of_is, calls_append}
use Rattle.monitor.proofs.EveningLaws.{stands_not, stands, is_short}
use Rattle.monitor.proofs.FirstLaws.{stand_on}
use Rattle.monitor.proofs.EveningGivenLaws.{is_long, is_calls}

module _ (sheet : List ℕ) where
  -- a log with an event in it: what the evening promises, real single calls leave, and what they leave it promises
  pub evening_calls : (run : Run) (e : ℕ) (es memory output : List ℕ) → length (e ∷ es) ≤ 4096 → (r : Evening) (memory' output' : List ℕ)
      → EveningPromise sheet run (e ∷ es) memory output r memory' output' ↔ SingleCalls sheet run (e ∷ es) memory output r memory' output'
  evening_calls run e es memory output short r memory' output' =
      let i = is_calls sheet run memory output e es short in (
        λ p. record { outcome = calls_of sheet run (e ∷ es) memory output; calls = calls_of_is sheet run (e ∷ es) memory output; reports = rw i at p },
        λ c. rw (i ∙ sym (calls_are sheet c.calls)) c.reports,
      )

  -- an evening that is not refused: short, from a run that 11 and 12 do not refuse
  sound_short : (run : Run) (log memory output : List ℕ) → (evening_of sheet run log memory output).verdict ≡ Ok tt → Dec (4096 < length log)
      → length log ≤ 4096
  sound_short run log memory output p (yes h) = not_both p (ap (λ (y : Outcome). y.verdict) (is_long sheet run memory output log h))
  sound_short run log memory output p (no h) = omega arith

  sound_stands : (run : Run) (log memory output : List ℕ) → (evening_of sheet run log memory output).verdict ≡ Ok tt
      → stands_by (opened_of sheet) run (length memory) ≡ Ok tt
  sound_stands run log memory output p =
      let s = sound_short run log memory output p (dec_lt 4096 (length log)) in
      sound_or (stands_by (opened_of sheet) run (length memory)) (λ q. q)
      (λ x q. not_both p (ap (λ (y : Outcome). y.verdict) (is_short sheet run log memory output s ∙ stands_not sheet run memory output q log)))

  -- from such a run it is the single calls, whatever the log
  stands_calls : (run : Run) (log memory output : List ℕ) → length log ≤ 4096 → stands_by (opened_of sheet) run (length memory) ≡ Ok tt
      → evening_of sheet run log memory output ≡ calls_of sheet run log memory output
  stands_calls run log memory output s q = is_short sheet run log memory output s ∙ stands sheet run memory output q log

  -- two as one
  module _ (a b : List ℕ) (run : Run) (memory output : List ℕ) (fits : length (a ++ b) ≤ 4096) where
    abbrev first : Outcome
    first = calls_of sheet run a memory output

    abbrev second : Outcome
    second = calls_of sheet first.run b first.memory first.rest

    both : (evening_of sheet run a memory output).verdict ≡ Ok tt
        → (evening_of sheet run a memory output ≡ first) × (evening_of sheet first.run b first.memory first.rest ≡ second)
        × (evening_of sheet run (a ++ b) memory output ≡ joined first.taken first.released first.ignored second)
    both p =
        let s = sound_stands run a memory output p in
        let one = stands_calls run a memory output (omega (arith, fits, length-append a b)) s in
        let v : first.verdict ≡ Ok tt = ap (λ (y : Outcome). y.verdict) (sym one) ∙ p in
        let t = stand_on sheet a run memory output (λ _. s) v in (
          one,
          stands_calls first.run b first.memory first.rest (omega (arith, fits, length-append a b)) t,
          stands_calls run (a ++ b) memory output fits s ∙ calls_append sheet a b run memory output v,
        )

    pub two_evenings : (r : Evening) (memory₁ output₁ : List ℕ) → EveningPromise sheet run a memory output r memory₁ output₁ → r.verdict ≡ Ok tt
        → (s : Evening) (memory₂ output₂ : List ℕ) → EveningPromise sheet r.run b memory₁ (drop r.released output₁) s memory₂ output₂
        → EveningPromise sheet run (a ++ b) memory output (both_of r s) memory₂ (take r.released output₁ ++ output₂)
    two_evenings r memory₁ output₁ p v s memory₂ output₂ q =
        let w = both (sym (ap (λ (y : Evening). y.verdict) p.report) ∙ v) in
        let P : Reports first r memory₁ output₁ = rw w.0 at p in
        let here : drop r.released output₁ ≡ first.rest = rw (P.report, P.output_after) (drop-append_seam first.released first.rest) in
        let there : take r.released output₁ ≡ first.released = rw (P.report, P.output_after) (take-append_seam first.released first.rest) in
        let Q : Reports second s memory₂ output₂ = rw (here, P.memory_after, P.report, w.1) at q in
        rw w.2
        (record {
          report = rw (
            P.report,
            Q.report,
            length-append first.taken second.taken,
            length-append first.released second.released,
            length-append first.ignored second.ignored,
          );
          memory_after = Q.memory_after;
          output_after = rw (there, Q.output_after) (sym (append_assoc first.released second.released second.rest));
        })
