-- What the checks 5 to 9 come to, of any drawing.
-- Assumes nothing.
use Rattle.std.specs.Prelude.{ℕ, Bool, not, ◌&&◌, List, ◌∷◌, leb}
use Rattle.rule.specs.Classes.{forbids_some}
use Rattle.rule.specs.Drawing.{Drawing, events, next}
use Rattle.rule.specs.Range.{rule_limits, most_pairs, between}
use Rattle.rule.specs.Refusals.{refuse_if, first_of, conditions, conditions_order}
use Rattle.rule.specs.Ways.{least}
use Rattle.rule.specs.declared.Shape.{Shape}
use Rattle.rule.specs.declared.Refusal.TheVariants.{Range}
use Rattle.rule.specs.Verdict.{Verdict}

-- a set can hold the states, and the array the pairs, of which there is one at least
abbrev pub holds : Shape → Bool
holds s = leb s.states rule_limits.states && between 1 most_pairs s.pairs

-- the lowest event of a row whose move the class forbids, or K
unfoldable pub first_forbidden : Drawing → ℕ → ℕ
first_forbidden d s = least (λ e. forbids_some d.shape.class d.pairs s (next d s e)) (events d)

-- 3 of a shape that cannot be held, and then the conditions 5 to 9 in order; their numbers
unfoldable pub checked_of : Drawing → Verdict
checked_of d = first_of (refuse_if (not (holds d.shape)) Range ∷ conditions d)

abbrev pub checked_order : List ℕ
checked_order = 3 ∷ conditions_order
