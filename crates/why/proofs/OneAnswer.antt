-- Any two calls with the same arguments that the contract of a function of this crate allows are equal. Assumes nothing.
use Prim.Native.Nat.{ℕ}
use mathlib.Core.Path.{◌≡◌, sym, ap, ◌∙◌}
use mathlib.Core.List.{List}
use Rattle.contracts.specs.Contract.{OneAnswer}
use Rattle.rule.specs.Drawing.{Drawing}
use Rattle.rule.specs.Operations.{operation_at}
use Rattle.why.specs.Grounds.{lost_pair, wanted_pair}
use Rattle.why.specs.Why.{ground_by, GroundPromise}
use Rattle.why.specs.declared.Ground.{Ground}
use Rattle.why.specs.contracts
use Rattle.why.proofs
use Rattle.rule.specs.Verdict.{Verdict, Written}
use Rattle.rule.specs.declared.Refusal.{Refusal}
use Rattle.std.specs.Prelude.{Result}

-- the ground at a state, and the output, are one
pub ground_one : {v : Verdict} {d : Drawing} {t : ℕ} {out : List ℕ} {g h : Result Ground Refusal} {out₁ out₂ : List ℕ}
    → GroundPromise v d t out g out₁ → GroundPromise v d t out h out₂ → (g ≡ h) × (out₁ ≡ out₂)
ground_one {d = d} {t} x y =
    let w = x.put.answer ∙ sym y.put.answer in (
      x.answer ∙ ap (λ (w : Written). ground_by w (operation_at d t) (lost_pair d t) (wanted_pair d t)) w ∙ sym y.answer,
      x.put.output ∙ sym y.put.output,
    )

pub why_one_answer : OneAnswer contracts.why.ended proofs.why.Reads.Learnt
why_one_answer κs a x y = let q = ground_one x.told y.told in (q.0, λ i. (tt, (tt, (tt, (q.1 i, tt)))))
