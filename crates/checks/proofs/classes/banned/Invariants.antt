-- What `checks::classes::banned` keeps at each turn: the set has what the pairs passed forbid.
-- Assumes nothing.
use Rattle.std.proofs.Common.{take}
use Rattle.rule.specs.Classes.{forbids_some}
use Rattle.rule.specs.Sets.{Members}
use Rattle.checks.proofs.classes.banned.Given as goal

abbrev pub invariant-loop-pair : goal.invariant-loop-pair
invariant-loop-pair l = Members l.set (forbids_some l.class (take l.pair-index l.pairs) l.s.0)
