-- Stopping states: outside P and reaching no state of R, for some pair; in joint mode, reaching no state that every pair accepts.
-- Assumes nothing.
use Rattle.std.specs.Prelude.{ℕ, Bool, false, cond, not, ◌&&◌, ◌||◌, List, [], ◌∷◌}
use Rattle.rule.specs.Sets.{has, meets}
use Rattle.rule.specs.Drawing.{Drawing, joint}
use Rattle.rule.specs.Acceptance.{good_of}
use Rattle.rule.specs.Operations.{reach_of}
use Rattle.rule.specs.declared.Pair.{Pair}

-- whether q, which reaches the set `reached`, is stopping by the pair
unfoldable pub stops_by : Pair → ℕ → ℕ → Bool
stops_by p reached q = not (has p.p q) && not (meets reached p.r)

-- whether it is by one of the pairs
unfoldable pub stops_by_some : List Pair → ℕ → ℕ → Bool
stops_by_some [] reached q = false
stops_by_some (p ∷ ps) reached q = stops_by p reached q || stops_by_some ps reached q

-- mode 0: whether q is stopping by one of the pairs
unfoldable pub stopping_pairs : Drawing → ℕ → Bool
stopping_pairs d q = stops_by_some d.pairs (reach_of d q) q

-- joint mode: whether q reaches no state that every pair accepts
unfoldable pub stopping_joint : Drawing → ℕ → Bool
stopping_joint d q = not (meets (reach_of d q) (good_of d))

-- whether q is stopping, by the mode
unfoldable pub stopping : Drawing → ℕ → Bool
stopping d q = cond (joint d) (stopping_joint d q) (stopping_pairs d q)
