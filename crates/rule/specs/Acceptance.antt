-- Acceptance of a finite sequence of events.
-- Assumes nothing.
use Rattle.std.specs.Prelude.{ℕ, ◌≡◌, Bool, true, ◌&&◌, ◌||◌, List, [], ◌∷◌, ◌++◌}
use Rattle.rule.specs.Sets.{has, those}
use Rattle.rule.specs.Reach.{after, Events}
use Rattle.rule.specs.Drawing.{Drawing, next, initial}
use Rattle.rule.specs.declared.Pair.{Pair}

-- whether t lies in R or P of the pair
unfoldable pub meets_pair : Pair → ℕ → Bool
meets_pair p t = has p.r t || has p.p t

-- whether t lies in R or P of every pair
unfoldable pub meets_all : List Pair → ℕ → Bool
meets_all [] t = true
meets_all (p ∷ ps) t = meets_pair p t && meets_all ps t

-- the states that every pair accepts, as a set
unfoldable pub good_of : Drawing → ℕ
good_of d = those (meets_all d.pairs) 64

-- the empty sequence is accepted; any other when the state after its last event lies in R or P of every pair
unfoldable pub accepts : Drawing → List ℕ → Bool
accepts d [] = true
accepts d (e ∷ w) = meets_all d.pairs (after (next d) (next d (initial d) e) w)

-- neither w nor any longer sequence of the events below k could be accepted
abbrev pub Hopeless : (k : ℕ) → (accepts : List ℕ → Bool) → (w : List ℕ) → Type 0
Hopeless k accepts w = (v : List ℕ) → Events k v → accepts (w ++ v) ≡ true → ⊥
