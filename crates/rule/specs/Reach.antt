-- Reach: over a table of so many states and events, row by state, then by event.
-- Assumes nothing.
use Rattle.std.specs.Prelude.{ℕ, zero, suc, ◌+◌, ◌*◌, ◌≤◌, ◌<◌, ◌≡◌, cond, List, [], ◌∷◌, length, get_or}
use Rattle.rule.specs.Sets.{has, including}

-- the place of a cell: row by state, then by event, of so many events a row
abbrev pub place_of : (events s e : ℕ) → ℕ
place_of events s e = s * events + e

-- the state to which event e leads from state s
unfoldable pub target : List ℕ → ℕ → ℕ → ℕ → ℕ
target table k s e = get_or table (place_of k s e) 0

-- the state after a sequence of events, from q
abbrev pub after : (ℕ → ℕ → ℕ) → ℕ → List ℕ → ℕ
after next q [] = q
after next q (e ∷ w) = after next (next q e) w

-- each event of a sequence is one of the k
pub data Events (k : ℕ) : List ℕ → Type 0 where
  none : Events k []
  more : {e : ℕ} {w : List ℕ} → e < k → Events k w → Events k (e ∷ w)

-- some events lead from q to t
pub record Leads (k : ℕ) (next : ℕ → ℕ → ℕ) (q t : ℕ) : Type 0 where
  pub way : List ℕ
  pub known : Events k way
  pub ends : after next q way ≡ t

-- some events, m at most, lead from q to t
pub record LeadsWithin (k : ℕ) (next : ℕ → ℕ → ℕ) (q m t : ℕ) : Type 0 where
  pub leads : Leads k next q t
  pub few : length leads.way ≤ m

-- every move of the n states leads to one of the n states
abbrev pub Closed : List ℕ → ℕ → ℕ → Type 0
Closed table n k = (s e : ℕ) → s < n → e < k → target table k s e < n

-- x with the states to which the events below j lead from s
unfoldable pub with_moves : List ℕ → ℕ → ℕ → ℕ → ℕ → ℕ
with_moves table k s x zero = x
with_moves table k s x (suc j) = including (with_moves table k s x j) (target table k s j)

-- y with the states to which one move leads from a member of x below i
unfoldable pub moved_below : List ℕ → ℕ → ℕ → ℕ → ℕ → ℕ
moved_below table k x y zero = y
moved_below table k x y (suc i) =
    cond (has x i) (with_moves table k i (moved_below table k x y i) k) (moved_below table k x y i)

-- x with the states to which one move leads from a member
unfoldable pub moved_set : List ℕ → ℕ → ℕ → ℕ → ℕ
moved_set table n k x = moved_below table k x x n

-- the states reached from a member of x in at most m moves; zero moves count
unfoldable pub spread : List ℕ → ℕ → ℕ → ℕ → ℕ → ℕ
spread table n k x zero = x
spread table n k x (suc m) = moved_set table n k (spread table n k x m)

-- the states reached from q in at most m moves
unfoldable pub reached_within : List ℕ → ℕ → ℕ → ℕ → ℕ → ℕ
reached_within table n k q m = spread table n k (including 0 q) m
