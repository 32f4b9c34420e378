-- The layers of Ways: the set x, with the states from which one event leads into it, and so on. What a layer keeps, what is new in it, and why.
-- Assumes nothing.
use mathlib.Core.Path.{◌≡◌, refl}
use mathlib.Core.Bool.{true, false}
use mathlib.Core.Logic.{⊎_elim}
use Prim.Native.Nat.{ℕ, zero, suc, ◌+◌, ◌<◌}
use native.Mathlib.Omega.{arith}
use native.Mathlib.Nat.{add-zero, add-suc}
use borrow.Author.Tests.{lt-ltb, le-ltb}
use Rattle.rule.specs.Sets.{has, including}
use Rattle.rule.specs.Ways.{event_into, nearer_below, within}
use Rattle.rule.proofs.SetLaws.{below_or, including_keeps, including_new, including_from}
use Rattle.rule.proofs.BoolLaws.{clash}
use Rattle.rule.proofs.LeastLaws.{least_holds, least_first}
use Rattle.rule.proofs.CountLaws.{Within}

-- one event
module _ (next : ℕ → ℕ → ℕ) (k x s : ℕ) where
  pub event_in : event_into next k x s < k → has x (next s (event_into next k x s)) ≡ true
  unfolding event_into
  event_in h = least_holds (λ e. has x (next s e)) k h

  pub in_event : (e : ℕ) → e < k → has x (next s e) ≡ true → event_into next k x s < k
  unfolding event_into
  in_event e h m = below_or (event_into next k x s) k (λ l. l) (λ l. clash m (least_first (λ e. has x (next s e)) k e (omega arith)))

-- x with the states from which one event leads into it
module _ (next : ℕ → ℕ → ℕ) (k x : ℕ) where
  -- x with the states below i from which one event leads into it, by cases
  pub nearer_or : (P : ℕ → Type 0) (i : ℕ) → (event_into next k x i < k → P (including (nearer_below next k x i) i)) → P (nearer_below next k x i)
      → P (nearer_below next k x (suc i))
  unfolding nearer_below
  nearer_or P i f g =
      below_or (event_into next k x i) k
      (λ l. rw (lt-ltb (event_into next k x i) k l) (f l))
      (λ l. rw (le-ltb (event_into next k x i) k l) g)

  pub nearer_keeps : (i : ℕ) → Within x (nearer_below next k x i)
  unfolding nearer_below
  nearer_keeps zero t m = m
  nearer_keeps (suc i) t m = nearer_or (λ z. has z t ≡ true) i (λ l. including_keeps (nearer_below next k x i) i t (nearer_keeps i t m)) (nearer_keeps i t m)

  pub nearer_new : (i s e : ℕ) → s < i → s < 64 → e < k → has x (next s e) ≡ true → has (nearer_below next k x i) s ≡ true
  unfolding nearer_below
  nearer_new zero s e h b g m = absurd (omega arith)
  nearer_new (suc i) s e h b g m =
      below_or s i
      (λ c. let old = nearer_new i s e c b g m in nearer_or (λ z. has z s ≡ true) i (λ l. including_keeps (nearer_below next k x i) i s old) old)
      (λ c. let q : s ≡ i = omega arith in
      rw (q, lt-ltb (event_into next k x i) k (in_event next k x i e g (rw q at m))) (including_new (nearer_below next k x i) i (omega arith)))

  -- what is new is led into x by one event
  pub nearer_event : (i s : ℕ) → has x s ≡ false → has (nearer_below next k x i) s ≡ true → event_into next k x s < k
  unfolding nearer_below
  nearer_event zero s o q = clash q o
  nearer_event (suc i) s o q =
      nearer_or (λ z. has z s ≡ true → event_into next k x s < k) i
      (λ l m. ⊎_elim (nearer_event i s o) (λ (e : i ≡ s). rw e at l) (including_from (nearer_below next k x i) i s m))
      (nearer_event i s o) q

-- layer by layer
module _ (next : ℕ → ℕ → ℕ) (n k x : ℕ) where
  abbrev W : ℕ → ℕ
  W m = within next n k x m

  pub layer_first : W 0 ≡ x
  unfolding within
  layer_first = refl

  pub layer_again : (m : ℕ) → W (suc m) ≡ nearer_below next k (W m) n
  unfolding within
  layer_again m = refl

  pub layer_keeps : (m : ℕ) → Within (W m) (W (suc m))
  layer_keeps m t i = rw (layer_again m) (nearer_keeps next k (W m) n t i)

  pub layer_later : (m j : ℕ) → Within (W m) (W (m + j))
  layer_later m zero t i = rw add-zero i
  layer_later m (suc j) t i = rw add-suc (layer_keeps (m + j) t (layer_later m j t i))
