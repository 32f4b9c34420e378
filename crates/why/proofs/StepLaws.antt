-- The array of steps: after as many rounds as it takes, following it gives the way.
-- Assumes nothing.
use mathlib.Core.Path.{◌≡◌, refl, ap, ◌∙◌}
use mathlib.Core.Bool.{true, false}
use mathlib.Core.List.{List, ◌∷◌}
use Prim.Native.Nat.{ℕ, zero, suc, ◌+◌, ◌-◌, ◌≤◌, ◌<◌}
use native.Mathlib.Omega.{arith}
use lib.ListN.{length, get_or, length-set}
use lib.Seq.{get_or-set_same, get_or-set_other}
use lib.Dec.{ltb}
use borrow.Author.Tests.{lt-ltb}
use Rattle.rule.specs.Sets.{has}
use Rattle.rule.specs.Ways.{event_into, within, way_by}
use Rattle.rule.proofs.SetLaws.{true_or, below_or}
use Rattle.rule.proofs.BoolLaws.{clash}
use Rattle.rule.proofs.LayerLaws.{layer_later}
use Rattle.rule.proofs.ShortestLaws.{FirstAt, step_in, way_first}
use Rattle.why.specs.Steps.{steps_below, steps_within, followed}

module _ (next : ℕ → ℕ → ℕ) (k x : ℕ) (l : List ℕ) where
  abbrev S : ℕ → List ℕ
  S i = steps_below next k x l i

  pub steps_length : (i : ℕ) → length (S i) ≡ length l
  unfolding steps_below
  steps_length zero = refl
  steps_length (suc i) =
      true_or (has x i)
      (λ a. rw a (steps_length i))
      (λ a.
      true_or (ltb (event_into next k x i) k)
      (λ b. rw (a, b) (length-set (S i) i (event_into next k x i) ∙ steps_length i)) (λ b. rw (a, b) (steps_length i)))

  -- one round: a member keeps its step, and a new one gets the lowest event
  steps_keep : (i s : ℕ) → has x s ≡ true → get_or (S i) s 0 ≡ get_or l s 0
  unfolding steps_below
  steps_keep zero s q = refl
  steps_keep (suc i) s q =
      true_or (has x i)
      (λ a. rw a (steps_keep i s q))
      (λ a.
      true_or (ltb (event_into next k x i) k)
      (λ b. rw (a, b) (get_or-set_other (S i) i s (event_into next k x i) 0 (λ e. clash q (rw e a)) ∙ steps_keep i s q))
      (λ b. rw (a, b) (steps_keep i s q)))

  steps_put : (i s : ℕ) → s < i → i ≤ length l → has x s ≡ false → event_into next k x s < k → get_or (S i) s 0 ≡ event_into next k x s
  unfolding steps_below
  steps_put zero s h f o g = absurd (omega arith)
  steps_put (suc i) s h f o g =
      below_or s i
      (λ b.
      let r = steps_put i s b (omega arith) o g in
      true_or (has x i)
      (λ a. rw a r)
      (λ a.
      true_or (ltb (event_into next k x i) k)
      (λ c. rw (a, c) (get_or-set_other (S i) i s (event_into next k x i) 0 (λ e. omega arith) ∙ r))
      (λ c. rw (a, c) r)))
      (λ b.
      let q : s ≡ i = omega arith in
      rw (← q, o, lt-ltb _ _ g) (get_or-set_same (S s) s (event_into next k x s) 0 (omega (arith, steps_length s))))

-- after m rounds the array has the first event of the way from each state that they found
module _ (next : ℕ → ℕ → ℕ) (n k x : ℕ) (closed : (s e : ℕ) → s < n → e < k → next s e < n) (fits : n ≤ 64) (l : List ℕ) (long : n ≤ length l) where
  abbrev Steps : ℕ → List ℕ
  Steps m = steps_within next n k x l m

  steps_within_length : (m : ℕ) → length (Steps m) ≡ length l
  unfolding steps_within
  steps_within_length zero = refl
  steps_within_length (suc m) = steps_length next k (within next n k x m) (Steps m) n ∙ steps_within_length m

  guided : (m j s : ℕ) → j < m → s < n → FirstAt next n k x (suc j) s → get_or (Steps m) s 0 ≡ event_into next k (within next n k x j) s
  unfolding steps_within
  guided zero j s b h f = absurd (omega arith)
  guided (suc m) j s b h f =
      below_or j m
      (λ c.
      let p : suc j + (m - suc j) ≡ m = omega arith in
      let i : has (within next n k x m) s ≡ true = rw p at (layer_later next n k x (suc j) (m - suc j) s f.0) in
      steps_keep next k (within next n k x m) (Steps m) n s i ∙ guided m j s c h f)
      (λ c.
      let q : j ≡ m = omega arith in
      rw (← q)
      (steps_put next k (within next n k x j) (Steps j) n s h (omega (arith, steps_within_length j)) (f.1 j (omega arith))
      (step_in next n k x closed fits j s (f.1 j (omega arith)) f.0)))

  -- following it is the way
  pub followed_way : (r m s : ℕ) → m ≤ r → s < n → FirstAt next n k x m s → followed next (Steps r) m s ≡ way_by next n k x m s
  unfolding followed way_by
  followed_way r zero s b h f = refl
  followed_way r (suc m) s b h f =
      let e = event_into next k (within next n k x m) s in
      let q : get_or (Steps r) s 0 ≡ e = guided r m s (omega arith) h f in
      let g = step_in next n k x closed fits m s (f.1 m (omega arith)) f.0 in
      rw q
      (ap (λ (z : List ℕ). e ∷ z)
      (followed_way r m (next s e) (omega arith) (closed s e h g) (way_first next n k x closed fits m s h f)))
