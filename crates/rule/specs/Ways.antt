-- Ways: sequences of events that meet a goal, the shortest of them, and of these the lowest in event order. The goal is any test on states, and where a
-- way is computed it is a set of states: a pair has one, and so have all pairs together.
-- Assumes nothing.
use Rattle.std.specs.Prelude.{ℕ, zero, suc, ◌≤◌, ◌<◌, ◌≡◌, Bool, true, cond, ◌⊎◌, List, [], ◌∷◌, length, ltb}
use Rattle.rule.specs.Sets.{has, including}
use Rattle.rule.specs.Reach.{after, Events}

-- in plain words

-- the events of w lead from t to a state where the goal is met
pub record Meets (k : ℕ) (next : ℕ → ℕ → ℕ) (goal : ℕ → Bool) (t : ℕ) (w : List ℕ) : Type 0 where
  pub known : Events k w
  pub ends : goal (after next t w) ≡ true

-- w comes before v in event order: where they first differ it has the lower event
pub data Before : List ℕ → List ℕ → Type 0 where
  here : {e f : ℕ} {w v : List ℕ} → e < f → Before (e ∷ w) (f ∷ v)
  later : {e : ℕ} {w v : List ℕ} → Before w v → Before (e ∷ w) (e ∷ v)

-- w is the shortest sequence of events that meets the goal, the lowest in event order among equals
pub record Shortest (k : ℕ) (next : ℕ → ℕ → ℕ) (goal : ℕ → Bool) (t : ℕ) (w : List ℕ) : Type 0 where
  pub meets : Meets k next goal t w
  pub shortest : (v : List ℕ) → Meets k next goal t v → length w ≤ length v
  pub lowest : (v : List ℕ) → Meets k next goal t v → length v ≡ length w → (w ≡ v) ⊎ Before w v

-- computed, backwards from a set x of states: of n states and k events

-- the lowest number below k where p holds, or k
unfoldable pub least : (ℕ → Bool) → ℕ → ℕ
least p zero = zero
least p (suc k) = cond (p zero) zero (suc (least (λ i. p (suc i)) k))

-- the lowest event that leads from s into x, or k
unfoldable pub event_into : (ℕ → ℕ → ℕ) → ℕ → ℕ → ℕ → ℕ
event_into next k x s = least (λ e. has x (next s e)) k

-- x with the states below i from which one event leads into x
unfoldable pub nearer_below : (ℕ → ℕ → ℕ) → ℕ → ℕ → ℕ → ℕ
nearer_below next k x zero = x
nearer_below next k x (suc i) = cond (ltb (event_into next k x i) k) (including (nearer_below next k x i) i) (nearer_below next k x i)

-- the states from which at most m events lead into x
unfoldable pub within : (ℕ → ℕ → ℕ) → ℕ → ℕ → ℕ → ℕ → ℕ
within next n k x zero = x
within next n k x (suc m) = nearer_below next k (within next n k x m) n

-- the fewest events that lead from s into x, or n
unfoldable pub distance : (ℕ → ℕ → ℕ) → ℕ → ℕ → ℕ → ℕ → ℕ
distance next n k x s = least (λ m. has (within next n k x m) s) n

-- the way of m events from s: each is the lowest that leads one event nearer
unfoldable pub way_by : (ℕ → ℕ → ℕ) → ℕ → ℕ → ℕ → ℕ → ℕ → List ℕ
way_by next n k x zero s = []
way_by next n k x (suc m) s = event_into next k (within next n k x m) s ∷ way_by next n k x m (next s (event_into next k (within next n k x m) s))

-- the way from s into x
unfoldable pub way_into : (ℕ → ℕ → ℕ) → ℕ → ℕ → ℕ → ℕ → List ℕ
way_into next n k x s = way_by next n k x (distance next n k x s) s
