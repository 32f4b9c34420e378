-- The members of a set after one move, and its bound as a number.
-- Assumes nothing.
use mathlib.Core.Path.{◌≡◌, refl, sym}
use mathlib.Core.Bool.{Bool, true, false}
use mathlib.Core.Logic.{◌⊎◌, inl, inr, ⊎_elim}
use mathlib.Core.List.{List}
use Prim.Native.Nat.{ℕ, zero, suc, ◌^◌, ◌<◌}
use native.Mathlib.Omega.{arith}
use lib.Bits.{bit_xor}
use Rattle.rule.specs.Sets.{has, including}
use Rattle.rule.specs.Reach.{target, Closed, with_moves, moved_below, moved_set}
use Rattle.rule.proofs.SetLaws.{below_or, true_or, including_keeps, including_new, including_from}
use Rattle.rule.proofs.SetLaws.{including_lt, including_fits, same_members, xor_in, xor_out}
use Rattle.rule.proofs.BoolLaws.{clash}

-- the moves from one state
module _ (table : List ℕ) (k s x : ℕ) where
  -- what `including` keeps, they keep
  moves_hold : (P : ℕ → Type 0) (j : ℕ) → ((z e : ℕ) → e < j → P z → P (including z (target table k s e))) → P x → P (with_moves table k s x j)
  unfolding with_moves
  moves_hold P zero f h = h
  moves_hold P (suc j) f h = f (with_moves table k s x j) j (omega arith) (moves_hold P j (λ z e l. f z e (omega arith)) h)

  pub moves_new : (j e : ℕ) → e < j → target table k s e < 64 → has (with_moves table k s x j) (target table k s e) ≡ true
  unfolding with_moves
  moves_new zero e h g = absurd (omega arith)
  moves_new (suc j) e h g =
      below_or e j
      (λ l. including_keeps (with_moves table k s x j) (target table k s j) (target table k s e) (moves_new j e l g))
      (λ l. let q : e ≡ j = omega arith in rw q (including_new (with_moves table k s x j) (target table k s j) (rw q at g)))

  pub moves_from : (j t : ℕ) → has (with_moves table k s x j) t ≡ true → (has x t ≡ true) ⊎ ((e : ℕ) × (e < j) × (target table k s e ≡ t))
  unfolding with_moves
  moves_from zero t m = inl m
  moves_from (suc j) t m =
      ⊎_elim
      (λ old. ⊎_elim inl (λ w. inr (w.0, omega arith, w.2)) (moves_from j t old))
      (λ e. inr (j, omega arith, e))
      (including_from (with_moves table k s x j) (target table k s j) t m)

-- one move leads to t from a member of x below i
pub record Move (table : List ℕ) (k x i t : ℕ) : Type 0 where
  pub state : ℕ
  pub event : ℕ
  pub below : state < i
  pub known : event < k
  pub member : has x state ≡ true
  pub leads : target table k state event ≡ t

-- the moves from all members of x, added to y
module _ (table : List ℕ) (k x y : ℕ) where
  -- what is so of the set before and of the set with the moves from i, where i is a member, is so of the set after i
  step : (P : ℕ → Type 0) (i : ℕ) → (has x i ≡ false → P (moved_below table k x y i))
      → (has x i ≡ true → P (with_moves table k i (moved_below table k x y i) k)) → P (moved_below table k x y (suc i))
  unfolding moved_below
  step P i f g = true_or (has x i) (λ m. rw m (g m)) (λ m. rw m (f m))

  -- what `including` keeps, they keep
  below_hold : (P : ℕ → Type 0) (i : ℕ) → ((z s e : ℕ) → s < i → e < k → P z → P (including z (target table k s e))) → P y → P (moved_below table k x y i)
  unfolding moved_below
  below_hold P zero f h = h
  below_hold P (suc i) f h =
      let before : P (moved_below table k x y i) = below_hold P i (λ z s e l. f z s e (omega arith)) h in
      step P i (λ out. before) (λ mi. moves_hold table k i (moved_below table k x y i) P k (λ z e l. f z i e (omega arith) l) before)

  below_keeps : (i t : ℕ) → has y t ≡ true → has (moved_below table k x y i) t ≡ true
  below_keeps i t m = below_hold (λ z. has z t ≡ true) i (λ z s e l g. including_keeps z (target table k s e) t) m

  below_fits : (i : ℕ) → y < 2 ^ 64 → moved_below table k x y i < 2 ^ 64
  below_fits i h = below_hold (λ z. z < 2 ^ 64) i (λ z s e l g. including_fits z (target table k s e)) h

  below_new : (i s e : ℕ) → s < i → has x s ≡ true → e < k → target table k s e < 64 → has (moved_below table k x y i) (target table k s e) ≡ true
  below_new zero s e h m l g = absurd (omega arith)
  below_new (suc i) s e h m l g =
      step (λ z. has z (target table k s e) ≡ true) i
      (λ out. below_or s i
      (λ b. below_new i s e b m l g)
      (λ b. let q : s ≡ i = omega arith in clash m (rw q out)))
      (λ mi. below_or s i
      (λ b. moves_hold table k i (moved_below table k x y i) (λ z. has z (target table k s e) ≡ true) k
      (λ z f u. including_keeps z (target table k i f) (target table k s e)) (below_new i s e b m l g))
      (λ b. let q : s ≡ i = omega arith in rw q (moves_new table k i (moved_below table k x y i) k e l (rw q at g))))

  below_from : (i t : ℕ) → has (moved_below table k x y i) t ≡ true → (has y t ≡ true) ⊎ Move table k x i t
  unfolding moved_below
  below_from zero t m = inl m
  below_from (suc i) t m =
      step (λ z. has z t ≡ true → (has y t ≡ true) ⊎ Move table k x (suc i) t) i
      (λ out m. later (below_from i t m))
      (λ mi m. ⊎_elim
      (λ old. later (below_from i t old))
      (λ w. inr (record { state = i; event = w.0; below = omega arith; known = w.1; member = mi; leads = w.2 }))
      (moves_from table k i (moved_below table k x y i) k t m))
      m
    where
      later : (has y t ≡ true) ⊎ Move table k x i t → (has y t ≡ true) ⊎ Move table k x (suc i) t
      later = ⊎_elim inl (λ w. inr (record { state = w.state; event = w.event; below = omega arith; known = w.known; member = w.member; leads = w.leads }))

module _ (table : List ℕ) (n k x : ℕ) where
  -- the members after one move: those before, and where one move leads from one of them
  pub moved_keeps : (t : ℕ) → has x t ≡ true → has (moved_set table n k x) t ≡ true
  unfolding moved_set
  moved_keeps t m = below_keeps table k x x n t m

  pub moved_new : (s e : ℕ) → s < n → has x s ≡ true → e < k → target table k s e < 64 → has (moved_set table n k x) (target table k s e) ≡ true
  unfolding moved_set
  moved_new s e h m l g = below_new table k x x n s e h m l g

  pub moved_from : (t : ℕ) → has (moved_set table n k x) t ≡ true → (has x t ≡ true) ⊎ Move table k x n t
  unfolding moved_set
  moved_from t m = below_from table k x x n t m

  -- a move keeps a set within the states
  pub moved_lt : Closed table n k → x < 2 ^ n → moved_set table n k x < 2 ^ n
  unfolding moved_set
  moved_lt c h = below_hold table k x x (λ z. z < 2 ^ n) n (λ z s e l g i. including_lt n z (target table k s e) i (c s e l g)) h

  -- and within 64 bits
  moved_fits : x < 2 ^ 64 → moved_set table n k x < 2 ^ 64
  unfolding moved_set
  moved_fits h = below_fits table k x x n h

-- after a move from every member of x, only the moves from the members that it added can add more
module _ (table : List ℕ) (n k x : ℕ) (h : x < 2 ^ 64) where
  abbrev M : ℕ
  M = moved_set table n k x

  abbrev F : ℕ
  F = bit_xor M x

  fresh_in : (s : ℕ) → has F s ≡ true → has M s ≡ true
  fresh_in s m = true_or (has M s) (λ i. i) (λ o. true_or (has x s)
      (λ i. moved_keeps table n k x s i)
      (λ u. clash m (xor_out M x s o u)))

  there : (t : ℕ) → t < 64 → has (moved_below table k F M n) t ≡ true → has (moved_set table n k M) t ≡ true
  there t l m =
      ⊎_elim
      (λ i. moved_keeps table n k M t i)
      (λ (w : Move table k F n t). rw w.leads at (moved_new table n k M w.state w.event w.below (fresh_in w.state w.member)
      w.known (rw w.leads l)))
      (below_from table k F M n t m)

  back : (t : ℕ) → t < 64 → has (moved_set table n k M) t ≡ true → has (moved_below table k F M n) t ≡ true
  back t l m =
      ⊎_elim
      (λ i. below_keeps table k F M n t i)
      (λ (w : Move table k M n t). rw w.leads at (true_or (has x w.state)
      (λ i. below_keeps table k F M n (target table k w.state w.event)
      (moved_new table n k x w.state w.event w.below i w.known (rw w.leads l)))
      (λ o. below_new table k F M n w.state w.event w.below (xor_in M x w.state w.member o) w.known (rw w.leads l))))
      (moved_from table n k M t m)

  pub moved_fresh : moved_below table k (bit_xor (moved_set table n k x) x) (moved_set table n k x) n ≡ moved_set table n k (moved_set table n k x)
  moved_fresh =
      same_members 64 (moved_below table k F M n) (moved_set table n k M)
      (below_fits table k F M n (moved_fits table n k x h))
      (moved_fits table n k M (moved_fits table n k x h))
      (λ t l. both (has (moved_below table k F M n) t) (has (moved_set table n k M) t) (there t l) (back t l))
    where
      both : (a b : Bool) → (a ≡ true → b ≡ true) → (b ≡ true → a ≡ true) → a ≡ b
      both true b f g = sym (f refl)
      both false true f g = g refl
      both false false f g = refl
