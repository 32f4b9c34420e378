-- `reach::sets::contains` meets its contract: the bit that the shift leaves; past 63 a 64-bit number has none.
-- Assumes nothing.
use borrow.Author.Rules.{rules}
use mathlib.Core.Path.{◌∙◌, refl, sym}
use borrow.Author.Tests.{le-ltb}
use Rattle.rule.specs.Sets.{has}
use Rattle.rule.proofs.SetLaws.{has_past}
use Rattle.reach.proofs.sets.contains.Goals as goal

pub returns-then-i-lt-STATES : goal.returns-then-i-lt-STATES
unfolding has
returns-then-i-lt-STATES c = refl

pub returns-else-i-lt-STATES : goal.returns-else-i-lt-STATES
returns-else-i-lt-STATES c = le-ltb _ _ c.if-i-lt-STATES.false ∙ sym (has_past 64 _ _ (search rules) c.if-i-lt-STATES.false)
