-- What a check comes to that asks for a third condition, after a check of the two before it.
-- Assumes nothing.
use mathlib.Core.Path.{◌≡◌, sym, ◌∙◌}
use mathlib.Core.List.{[], ◌∷◌}
use Rattle.rule.specs.Refusals.{first_of}
use Rattle.rule.specs.Verdict.{Verdict}
use Rattle.rule.proofs.RefusalLaws.{append_hit}
use Rattle.rule.specs.declared.Refusal.{Refusal}
use Rattle.std.specs.Prelude.{Err}

-- where one of the two refuses, so does the whole
pub third_told : (a b : Verdict) {v : Verdict} → v ≡ first_of (a ∷ b ∷ []) → (w : Verdict) {r : Refusal} → v ≡ Err r → v ≡ first_of (a ∷ b ∷ w ∷ [])
third_told a b is w {r} e = e ∙ sym (append_hit (a ∷ b ∷ []) (w ∷ []) r (sym is ∙ e))
