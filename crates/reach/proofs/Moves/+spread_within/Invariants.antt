-- The moves that are left.
use Rattle.reach.proofs.Moves.+spread_within.Given as goal

abbrev pub decreases-spread_within : goal.decreases-spread_within
decreases-spread_within l = l.moves
