-- What each refusal from 5 to 9 says of the drawing, in plain words, with the places; and "given exactly when" of the paper's table.
-- Assumes nothing.
use Rattle.std.specs.Prelude.{ℕ, ◌≤◌, ◌<◌, ◌≡◌, ◌⊎◌, List, ◌∷◌, Ok, Err}
use Rattle.rule.specs.Drawing.{Drawing, states, events, count, initial, next, pair_at}
use Rattle.rule.specs.Published.{In, Out, ReachesNone}
use Rattle.rule.specs.Joint.{JointStop}
use Rattle.rule.specs.Refusals.{tell, told_of}
use Rattle.rule.specs.declared.Told.{Told}
use Rattle.rule.specs.declared.Refusal.{Refusal}
use Rattle.rule.specs.Verdict.{Verdict}

-- f refuses with r at some number below n, and nowhere earlier
pub record FirstBelow (f : ℕ → Verdict) (n : ℕ) (r : Refusal) : Type 0 where
  pub at : ℕ
  pub below : at < n
  pub refused : f at ≡ Err r
  pub earlier : (j : ℕ) → j < at → f j ≡ Ok tt

-- f refuses with r at some cell of n states and k events, and nowhere earlier in row order
pub record FirstRefused (f : ℕ → ℕ → Verdict) (n k : ℕ) (r : Refusal) : Type 0 where
  pub state : ℕ
  pub event : ℕ
  pub state_in : state < n
  pub event_in : event < k
  pub refused : f state event ≡ Err r
  pub rows_before : (s e : ℕ) → s < state → e < k → f s e ≡ Ok tt
  pub cells_before : (e : ℕ) → e < event → f state e ≡ Ok tt

-- (s, e) is the first cell in row order with the fault
pub record FirstCell (d : Drawing) (Fault : ℕ → ℕ → Type 0) (s e : ℕ) : Type 0 where
  pub state_in : s < states d
  pub event_in : e < events d
  pub fault : Fault s e
  pub rows_before : (s' e' : ℕ) → s' < s → e' < events d → Fault s' e' → ⊥
  pub cells_before : (e' : ℕ) → e' < e → Fault s e' → ⊥

-- i is the lowest used pair with the fault
pub record LowestPair (d : Drawing) (Fault : ℕ → Type 0) (i : ℕ) : Type 0 where
  pub used : i < count d
  pub fault : Fault i
  pub lower : (j : ℕ) → j < i → Fault j → ⊥

-- no cell has the fault; no used pair has it
abbrev pub NoCell : Drawing → (ℕ → ℕ → Type 0) → Type 0
NoCell d Fault = (s e : ℕ) → s < states d → e < events d → Fault s e → ⊥

abbrev pub NoPair : Drawing → (ℕ → Type 0) → Type 0
NoPair d Fault = (i : ℕ) → i < count d → Fault i → ⊥

-- the pair that is named: the lowest with the fault, or m where no single pair has it
pub data Named (d : Drawing) (Fault : ℕ → Type 0) : ℕ → Type 0 where
  lowest : {i : ℕ} → LowestPair d Fault i → Named d Fault i
  no_single : NoPair d Fault → Named d Fault (count d)

-- 5: the entry is N or more
abbrev pub BadEntry : Drawing → ℕ → ℕ → Type 0
BadEntry d s e = states d ≤ next d s e

-- 6: the set names a state that is N or more; the pair does, by R or by P
pub record Names (n x : ℕ) : Type 0 where
  pub state : ℕ
  pub past : n ≤ state
  pub member : In x state

abbrev pub BadPair : Drawing → ℕ → Type 0
BadPair d i = Names (states d) (pair_at d i).r ⊎ Names (states d) (pair_at d i).p

-- 0 if R does, 1 if only P
pub data BadSide (d : Drawing) (i : ℕ) : ℕ → Type 0 where
  by_R : Names (states d) (pair_at d i).r → BadSide d i 0
  only_P : (Names (states d) (pair_at d i).r → ⊥) → Names (states d) (pair_at d i).p → BadSide d i 1

pub record BadMember (d : Drawing) (i side : ℕ) : Type 0 where
  pub lowest : LowestPair d (BadPair d) i
  pub by_side : BadSide d i side

-- 7: class 1 with R not empty, class 2 or 4 with P not empty
pub data TooMuch (d : Drawing) : Type 0 where
  with_R : d.shape.class ≡ 1 → ((pair_at d 0).r ≡ 0 → ⊥) → TooMuch d
  with_P : (d.shape.class ≡ 2) ⊎ (d.shape.class ≡ 4) → ((pair_at d 0).p ≡ 0 → ⊥) → TooMuch d

-- 8: a used pair with a move from outside P into P in class 1 or 3, or from R out of R in class 2 or 3
pub data Forbidden (d : Drawing) (s e : ℕ) : Type 0 where
  into_P : (i : ℕ) → i < count d → (d.shape.class ≡ 1) ⊎ (d.shape.class ≡ 3)
      → Out (pair_at d i).p s → In (pair_at d i).p (next d s e) → Forbidden d s e
  out_of_R : (i : ℕ) → i < count d → (d.shape.class ≡ 2) ⊎ (d.shape.class ≡ 3)
      → In (pair_at d i).r s → Out (pair_at d i).r (next d s e) → Forbidden d s e

-- 9: q is outside P and reaches no state of R
pub record StopsBy (d : Drawing) (q i : ℕ) : Type 0 where
  pub outside : Out (pair_at d i).p q
  pub reaches_none : ReachesNone d (pair_at d i).r q

-- q is stopping: by some pair; in joint mode, because it reaches no state that every pair accepts
pub data Stops (d : Drawing) (q : ℕ) : Type 0 where
  by_pair : (d.shape.mode ≡ 1 → ⊥) → (i : ℕ) → i < count d → StopsBy d q i → Stops d q
  jointly : d.shape.mode ≡ 1 → JointStop d q → Stops d q

-- the initial state is stopping, and this is the lowest pair by which it is on its own, or m where no single pair is at fault
pub record StoppedBy (d : Drawing) (i : ℕ) : Type 0 where
  pub stops : Stops d (initial d)
  pub named : Named d (StopsBy d (initial d)) i

-- the paper's 10: R and P are both empty. A rule that passes 9 has no such used pair (specs/NoTen)
pub record BothEmpty (d : Drawing) (i : ℕ) : Type 0 where
  pub no_R : (pair_at d i).r ≡ 0
  pub no_P : (pair_at d i).p ≡ 0

-- a call's table: each row has its number, the refusal that it gives, and when it holds
abbrev pub Table : Type 1
Table = ℕ → Refusal → Type 0

-- no row with the number holds; no row holds
abbrev pub NoneAt : Table → ℕ → Type 0
NoneAt T n = (x : Refusal) → T n x → ⊥

abbrev pub NoRow : Table → Type 0
NoRow T = (n : ℕ) → NoneAt T n

-- "given exactly when": of the numbers in the call's own order of checking, the first that has a row that holds gives it
pub data Given (T : Table) (x : Refusal) : (order : List ℕ) → Type 0 where
  here : {n : ℕ} {order : List ℕ} → T n x → Given T x (n ∷ order)
  later : {n : ℕ} {order : List ℕ} → NoneAt T n → Given T x order → Given T x (n ∷ order)

-- the rows of a table, and one more: n gives x where A holds
pub data After (T : Table) (n : ℕ) (x : Refusal) (A : Type 0) : ℕ → Refusal → Type 0 where
  row : {m : ℕ} {y : Refusal} → T m y → After T n x A m y
  last : A → After T n x A n x

-- a call that looks at nothing has no row
pub data NoRows : ℕ → Refusal → Type 0 where

-- what a call tells: 0 and no places where no row of its table holds, else the number and the places of the first row that holds, in its order of checking
pub data Tells (T : Table) (order : List ℕ) : Told → Type 0 where
  done : NoRow T → Tells T order (tell 0 0 0)
  refused : {x : Refusal} → Given T x order → Tells T order (told_of x)

-- how a call ends: it tells that, and where it is refused the rest is so
pub record Ends (T : Table) (order : List ℕ) (told : Told) (Rest : Type 0) : Type 0 where
  pub tells : Tells T order told
  pub rest : (told.number ≡ 0 → ⊥) → Rest
