-- The ground of an operation, judged at the state t after the event: in the request's words, and computed.
-- Assumes nothing.
use Rattle.std.specs.Prelude.{ℕ, ◌≡◌, Bool, false, cond, not, List, [], get_or}
use Rattle.std.specs.Int.Bits.{bit_or}
use Rattle.rule.specs.Drawing.{Drawing, states, events, count, next, joint, pair_at, no_pair}
use Rattle.rule.specs.Acceptance.{meets_pair, meets_all, good_of}
use Rattle.rule.specs.Given.{LowestPair, NoPair}
use Rattle.rule.specs.Operations.{reach_of, operation_at}
use Rattle.rule.specs.Stopping.{stops_by}
use Rattle.rule.specs.Ways.{Meets, Shortest, least, way_into}
use Rattle.rule.specs.declared.Pair.{Pair}
use Rattle.rule.specs.declared.Operation.{Operation}
use Rattle.rule.specs.declared.Operation.TheVariants.{Halt, Store, Dump}

-- in the request's words

-- pair i is not met at t: t lies in neither R nor P
abbrev pub Unmet : Drawing → ℕ → ℕ → Type 0
Unmet d t i = meets_pair (pair_at d i) t ≡ false

-- it is not met there, and no further events can meet it
pub record Lost (d : Drawing) (t i : ℕ) : Type 0 where
  pub unmet : Unmet d t i
  pub never : (w : List ℕ) → Meets (events d) (next d) (meets_pair (pair_at d i)) t w → ⊥

-- no events lead from t to a state that every pair accepts; none at all count too
abbrev pub NoneTogether : Drawing → ℕ → Type 0
NoneTogether d t = (w : List ℕ) → Meets (events d) (next d) (meets_all d.pairs) t w → ⊥

-- halt: the lowest pair that is not met there and that no further events can meet; in joint mode, m where no single pair is at fault
pub data HaltGround (d : Drawing) (t : ℕ) : ℕ → Type 0 where
  alone : {i : ℕ} → LowestPair d (Lost d t) i → HaltGround d t i
  together : d.shape.mode ≡ 1 → NoPair d (Lost d t) → NoneTogether d t → HaltGround d t (count d)

-- what a store waits for: the lowest pair not yet met; in joint mode all pairs, which are named m
pub data Wanted (d : Drawing) (t : ℕ) : ℕ → Type 0 where
  a_pair : {i : ℕ} → (d.shape.mode ≡ 1 → ⊥) → LowestPair d (Unmet d t) i → Wanted d t i
  all_pairs : d.shape.mode ≡ 1 → (NoPair d (Unmet d t) → ⊥) → Wanted d t (count d)

-- whether it is met at s
unfoldable pub goal : Drawing → (i s : ℕ) → Bool
goal d i s = cond (joint d) (meets_all d.pairs s) (meets_pair (pair_at d i) s)

-- store: what is waited for, with the shortest sequence of further events that meets it, the lowest in event order among equals
pub record StoreGround (d : Drawing) (t i : ℕ) (w : List ℕ) : Type 0 where
  pub wanted : Wanted d t i
  pub way : Shortest (events d) (next d) (goal d i) t w

-- computed

-- the states where a pair is met
abbrev pub goal_of : Pair → ℕ
goal_of p = bit_or p.r p.p

-- the lowest of n pairs by which t, which reaches the set `reached`, is stopping; the lowest of n pairs that is not met; or n
unfoldable pub lost_among : List Pair → (n reached t : ℕ) → ℕ
lost_among ps n reached t = least (λ i. stops_by (get_or ps i no_pair) reached t) n

unfoldable pub unmet_among : List Pair → (n t : ℕ) → ℕ
unmet_among ps n t = least (λ i. not (meets_pair (get_or ps i no_pair) t)) n

-- the pair that a halt names, the pair that a store names, the states where that is met, and the way there
abbrev pub lost_pair : Drawing → ℕ → ℕ
lost_pair d t = lost_among d.pairs (count d) (reach_of d t) t

unfoldable pub wanted_pair : Drawing → ℕ → ℕ
wanted_pair d t = cond (joint d) (count d) (unmet_among d.pairs (count d) t)

unfoldable pub goal_set : Drawing → ℕ → ℕ
goal_set d i = cond (joint d) (good_of d) (goal_of (pair_at d i))

unfoldable pub way_for : Drawing → ℕ → List ℕ
way_for d t = way_into (next d) (states d) (events d) (goal_set d (wanted_pair d t)) t

-- the way that is told: all of it for a store, and none for a halt and a dump
abbrev pub for_store : Operation → List ℕ → List ℕ
for_store Halt w = []
for_store Store w = w
for_store Dump w = []

unfoldable pub way_told : Drawing → ℕ → List ℕ
way_told d t = for_store (operation_at d t) (way_for d t)
