-- What `checked_of` comes to of a drawing that passed check 3, and the numbers that it gives.
-- Assumes nothing.
use Rattle.std.proofs.Common.{◌≡◌, ◌≤◌, not, refl}
use borrow.Author.Tests.{le-leb}
use Rattle.rule.specs.Drawing.{Drawing, states, count}
use Rattle.rule.specs.Refusals.{first_of, conditions}
use Rattle.rule.proofs.NumberLaws.{Gives, test_gives, first_gives, and, conditions_give}
use Rattle.rule.specs.declared.Refusal.TheVariants.{Range}
use Rattle.checks.specs.Checked.{holds, checked_of, checked_order}

module _ (d : Drawing) where
  -- of a shape in range: the first of the conditions 5 to 9
  pub is_in_range : states d ≤ 64 → 1 ≤ count d → count d ≤ 8 → checked_of d ≡ first_of (conditions d)
  unfolding checked_of first_of
  is_in_range few some fits = rw (le-leb (states d) 64 few, le-leb 1 (count d) some, le-leb (count d) 8 fits)

  -- the numbers that it gives
  pub checked_gives : Gives checked_order (checked_of d)
  unfolding checked_of
  checked_gives = first_gives (and (test_gives (not (holds d.shape)) Range refl) (conditions_give d))
