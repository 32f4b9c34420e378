-- The four classes: what a rule of each must be, and which moves that forbids.
-- Assumes nothing.
use Rattle.std.specs.Prelude.{ℕ, ◌<◌, ◌≡◌, Bool, true, false, not, ◌&&◌, ◌||◌, List, [], ◌∷◌, eqb}
use Rattle.rule.specs.Sets.{has}
use Rattle.rule.specs.Drawing.{Drawing, states, events, count, next, pair_at}
use Rattle.rule.specs.declared.Pair.{Pair}

-- no move from outside the set into it
abbrev pub NoneInto : Drawing → ℕ → Type 0
NoneInto d x = (s e : ℕ) → s < states d → e < events d → has x s ≡ false → has x (next d s e) ≡ false

-- no move from the set out of it
abbrev pub NoneOut : Drawing → ℕ → Type 0
NoneOut d x = (s e : ℕ) → s < states d → e < events d → has x s ≡ true → has x (next d s e) ≡ true

-- class 1: one pair, R empty, no move from outside P into P
pub record Safety (d : Drawing) : Type 0 where
  pub one : count d ≡ 1
  pub no_R : (pair_at d 0).r ≡ 0
  pub none_into : NoneInto d (pair_at d 0).p

-- class 2: one pair, P empty, no move from R out of R
pub record Guarantee (d : Drawing) : Type 0 where
  pub one : count d ≡ 1
  pub no_P : (pair_at d 0).p ≡ 0
  pub none_out : NoneOut d (pair_at d 0).r

-- class 3: for every pair, no move from outside P into P and none from R out of R
pub record Obligation (d : Drawing) : Type 0 where
  pub none_into : (i : ℕ) → i < count d → NoneInto d (pair_at d i).p
  pub none_out : (i : ℕ) → i < count d → NoneOut d (pair_at d i).r

-- class 4: one pair, P empty
pub record Response (d : Drawing) : Type 0 where
  pub one : count d ≡ 1
  pub no_P : (pair_at d 0).p ≡ 0

-- the rule is of the class
pub data OfClass (d : Drawing) : ℕ → Type 0 where
  safety : Safety d → OfClass d 1
  guarantee : Guarantee d → OfClass d 2
  obligation : Obligation d → OfClass d 3
  response : Response d → OfClass d 4

-- whether the move from s to t is one from outside P into P
unfoldable pub moves_into : Pair → ℕ → ℕ → Bool
moves_into p s t = not (has p.p s) && has p.p t

-- whether the move from s to t is one from R out of R
unfoldable pub moves_out : Pair → ℕ → ℕ → Bool
moves_out p s t = has p.r s && not (has p.r t)

-- whether the class forbids the move from s to t for the pair: 1 into P, 2 out of R, 3 both, 4 none
unfoldable pub forbids : ℕ → Pair → ℕ → ℕ → Bool
forbids class p s t =
    ((eqb class 1 || eqb class 3) && moves_into p s t) || ((eqb class 2 || eqb class 3) && moves_out p s t)

-- whether it does for one of the pairs
unfoldable pub forbids_some : ℕ → List Pair → ℕ → ℕ → Bool
forbids_some class [] s t = false
forbids_some class (p ∷ ps) s t = forbids class p s t || forbids_some class ps s t
