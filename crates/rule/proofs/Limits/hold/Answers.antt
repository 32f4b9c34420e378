-- It is the definition.
use Rattle.std.proofs.Common.{refl}
use Rattle.rule.specs.Range.{in_range}
use Rattle.rule.proofs.Limits.hold.Goals as goal

pub returns : goal.returns
unfolding in_range
returns c = refl
