-- Laws of a value by a verdict: what the result says of both, and what a `?` passes on.
-- Assumes nothing.
use mathlib.Core.Path.{◌≡◌, refl, ap}
use Rattle.std.specs.Prelude.{Result, Ok, Err}
use Rattle.std.specs.Result.{IsErrAnd}
use Rattle.rule.specs.Verdict.{Verdict}
use Rattle.rule.specs.declared.Refusal.{Refusal}
use Rattle.rulefile.specs.Reading.{when_sound, verdict_in}

module _ {A : Type 0} where
  pub when_verdict : (v : Verdict) (a : A) → verdict_in (when_sound v a) ≡ v
  when_verdict (Ok _) a = refl
  when_verdict (Err r) a = refl

  pub when_ok : (v : Verdict) (a : A) {b : A} → when_sound v a ≡ Ok b → (v ≡ Ok tt) × (a ≡ b)
  when_ok (Ok _) a e = (refl, cc)
  when_ok (Err r) a e = cc

  pub when_err : (v : Verdict) (a : A) {r : Refusal} → when_sound v a ≡ Err r → v ≡ Err r
  when_err (Ok _) a e = cc
  when_err (Err r) a e = cc

  pub passed_on : (x : Result A Refusal) {r : Refusal} → IsErrAnd x (λ y. y ≡ r) → x ≡ Err r
  passed_on (Ok a) h = absurd h
  passed_on (Err y) h = ap Err h
