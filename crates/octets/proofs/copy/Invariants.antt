-- What `octets::copy` keeps at each turn: what has been copied stands in front of what was there.
-- Assumes nothing.
use Rattle.std.proofs.Common.{◌≡◌, ◌++◌, length, take, drop}
use Rattle.octets.proofs.copy.Given as goal

abbrev pub invariant-loop-i : goal.invariant-loop-i
invariant-loop-i l = l.to ≡ take l.i l.from ++ drop l.i l.initial.to
