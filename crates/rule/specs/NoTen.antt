-- Refusal 10 of document 01 (M-106): a used pair has R and P both empty. By such a pair every state is stopping, and no state is accepted by all pairs; so in
-- both modes 9 is given before 10 could be. This build does not look for it.
-- Assumes nothing: these are statements. proofs/NoTenLaws proves them of every drawing that has its m pairs.
use Rattle.std.specs.Prelude.{ℕ, ◌<◌, ◌≡◌, ◌&&◌, [], ◌∷◌, ◌++◌, Ok}
use Rattle.rule.specs.Sets.{is_empty}
use Rattle.rule.specs.Drawing.{Drawing, count, pair_at}
use Rattle.rule.specs.Joint.{AllAccept}
use Rattle.rule.specs.Refusals.{refuse_if, first_of, first_below, stopped, conditions}
use Rattle.rule.specs.Given.{NoPair, StopsBy, Stops, BothEmpty}
use Rattle.rule.specs.declared.Refusal.{Refusal}
use Rattle.rule.specs.Verdict.{Verdict}

-- 10 as it was looked for, with the refusal that it gave: a used pair has R and P both empty; the lowest such pair
unfoldable pub empties : (ℕ → Refusal) → Drawing → Verdict
empties ten d = first_below (λ i. refuse_if (is_empty (pair_at d i).r && is_empty (pair_at d i).p) (ten i)) (count d)

pub record NoTen (d : Drawing) : Type 0 where
  -- every state is stopping by a pair with both sets empty; where it is used, all pairs together accept no state, and so every state is stopping in both modes
  pub stops_by_pair : (i : ℕ) → BothEmpty d i → (q : ℕ) → StopsBy d q i
  pub none_accepted : (i : ℕ) → i < count d → BothEmpty d i → (t : ℕ) → AllAccept d t → ⊥
  pub stops : (i : ℕ) → i < count d → BothEmpty d i → (q : ℕ) → Stops d q
  -- an accepted rule has no used pair with both sets empty: where 9 has been passed there is none
  pub passed_nine : stopped d ≡ Ok tt → NoPair d (BothEmpty d)
  -- the conditions with 10 last, whatever it gave, and those without it come to the same verdict
  pub same_verdict : (ten : ℕ → Refusal) → first_of (conditions d ++ (empties ten d ∷ [])) ≡ first_of (conditions d)
