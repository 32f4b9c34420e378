-- Backward reach: the states from which some events lead into a set, and what that makes of a pair. Zero events count.
-- Assumes nothing.
use Rattle.std.specs.Prelude.{ℕ, zero, suc, Bool, false, cond, not, ◌&&◌, ◌||◌, List, [], ◌∷◌, ltb}
use Rattle.rule.specs.Sets.{has, including}
use Rattle.rule.specs.Ways.{event_into, within}
use Rattle.rule.specs.declared.Pair.{Pair}

-- the states from which some events lead into x, of n states and k events: 64 are always enough, as a set has no more members
unfoldable pub reaching : (ℕ → ℕ → ℕ) → ℕ → ℕ → ℕ → ℕ
reaching next n k x = within next n k x 64

-- x with s, where one event leads from s into x
unfoldable pub with_source : (ℕ → ℕ → ℕ) → ℕ → ℕ → ℕ → ℕ
with_source next k x s = cond (ltb (event_into next k x s) k) (including x s) x

-- the same of each state below i in turn, going up and going down: a state that was added counts at once
unfoldable pub swept_up : (ℕ → ℕ → ℕ) → ℕ → ℕ → ℕ → ℕ
swept_up next k x zero = x
swept_up next k x (suc i) = with_source next k (swept_up next k x i) i

unfoldable pub swept_down : (ℕ → ℕ → ℕ) → ℕ → ℕ → ℕ → ℕ
swept_down next k x zero = x
swept_down next k x (suc i) = swept_down next k (with_source next k x i) i

-- whether q is outside P, and no events lead from it into R; whether it is so for one of the pairs
unfoldable pub lost_by : (ℕ → ℕ → ℕ) → ℕ → ℕ → Pair → ℕ → Bool
lost_by next n k p q = not (has p.p q) && not (has (reaching next n k p.r) q)

unfoldable pub lost_by_some : (ℕ → ℕ → ℕ) → ℕ → ℕ → List Pair → ℕ → Bool
lost_by_some next n k [] q = false
lost_by_some next n k (p ∷ ps) q = lost_by next n k p q || lost_by_some next n k ps q
