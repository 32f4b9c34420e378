-- `printed::text::Text::put` meets its contract: past the end, or copied to the front of the lent rest.
-- Assumes nothing.
use mathlib.Core.Path.{refl}
use native.Mathlib.Omega.{arith}
use Rattle.printed.proofs.PlacingLaws.{put_past, put_copy}
use Rattle.printed.proofs.text.Text.put.Goals as goal

pub returns-then-start-self : goal.returns-then-start-self
returns-then-start-self c = record { same = refl; put = put_copy _ _ _ (omega arith) c.saturating_add-self.ensures c.if-start-self.true c.copy.ensures }

pub returns-else-start-self : goal.returns-else-start-self
returns-else-start-self c = record { same = refl; put = put_past _ _ _ (omega arith) c.saturating_add-self.ensures c.if-start-self.false }
