-- How the code finds a way: each state's moves as a set, the first event of the way from each state found, and the way that these give.
-- Assumes nothing.
use Rattle.std.specs.Prelude.{ℕ, zero, suc, cond, List, [], ◌∷◌, get_or, set, eqb, ltb}
use Rattle.rule.specs.Arrays.{filled}
use Rattle.rule.specs.Sets.{has, those}
use Rattle.rule.specs.Reach.{with_moves}
use Rattle.rule.specs.Acceptance.{meets_all}
use Rattle.rule.specs.Operations.{value_of, smallest_of}
use Rattle.rule.specs.declared.Pair.{Pair}
use Rattle.rule.specs.declared.Shape.{Shape}
use Rattle.rule.specs.declared.Operation.{Operation}
use Rattle.rule.specs.Ways.{event_into, within}

-- an array with, at each state below n, the set of the states to which its moves lead
abbrev pub rows_of : List ℕ → (k : ℕ) → (rows : List ℕ) → (n : ℕ) → List ℕ
rows_of table k rows n = filled (λ s. with_moves table k s 0 k) rows n

-- an array with, at each state below i outside x from which one event leads into x, the lowest such event
unfoldable pub steps_below : (ℕ → ℕ → ℕ) → ℕ → ℕ → List ℕ → ℕ → List ℕ
steps_below next k x l zero = l
steps_below next k x l (suc i) =
    cond (has x i) (steps_below next k x l i)
    (cond (ltb (event_into next k x i) k) (set (steps_below next k x l i) i (event_into next k x i)) (steps_below next k x l i))

-- the same after m rounds
unfoldable pub steps_within : (ℕ → ℕ → ℕ) → ℕ → ℕ → ℕ → List ℕ → ℕ → List ℕ
steps_within next n k x l zero = l
steps_within next n k x l (suc m) = steps_below next k (within next n k x m) (steps_within next n k x l m) n

-- the m events that an array of steps gives from s on
unfoldable pub followed : (ℕ → ℕ → ℕ) → List ℕ → ℕ → ℕ → List ℕ
followed next l zero s = []
followed next l (suc m) s = get_or l s 0 ∷ followed next l m (next s (get_or l s 0))

-- the operation at t, which reaches the set `reached`, by the mode: in joint mode all pairs together are one pair, with R the states that every pair accepts
unfoldable pub operation_by : Shape → List Pair → (reached t : ℕ) → Operation
operation_by s ps reached t =
    cond (eqb s.mode 1) (value_of (record { r = those (meets_all ps) 64; p = 0 }) reached t) (smallest_of ps reached t)
