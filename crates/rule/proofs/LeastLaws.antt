-- The lowest number where a test holds.
-- Assumes nothing.
use mathlib.Core.Path.{◌≡◌}
use mathlib.Core.Bool.{Bool, true, false}
use Prim.Native.Nat.{ℕ, zero, suc, ◌≤◌, ◌<◌}
use native.Mathlib.Omega.{arith}
use native.Mathlib.Nat.{le_of_suc-le-suc}
use Rattle.rule.specs.Ways.{least}
use Rattle.rule.proofs.SetLaws.{true_or, below_or}
use Rattle.rule.proofs.BoolLaws.{clash}

pub least_le : (p : ℕ → Bool) (k : ℕ) → least p k ≤ k
unfolding least
least_le p zero = omega arith
least_le p (suc k) =
    true_or (p zero)
    (λ q. rw q (omega arith))
    (λ q. rw q (omega (arith, least_le (λ i. p (suc i)) k)))

pub least_holds : (p : ℕ → Bool) (k : ℕ) → least p k < k → p (least p k) ≡ true
unfolding least
least_holds p zero h = absurd (omega arith)
least_holds p (suc k) h =
    true_or (p zero)
    (λ q. rw q q)
    (λ q. rw q (least_holds (λ i. p (suc i)) k (le_of_suc-le-suc (rw q at h))))

pub least_first : (p : ℕ → Bool) (k i : ℕ) → i < least p k → p i ≡ false
unfolding least
least_first p zero i h = absurd (omega arith)
least_first p (suc k) zero h = true_or (p zero) (λ q. let g = rw q at h in absurd (omega arith)) (λ q. q)
least_first p (suc k) (suc i) h =
    true_or (p zero)
    (λ q. let g = rw q at h in absurd (omega arith))
    (λ q. least_first (λ i. p (suc i)) k i (le_of_suc-le-suc (rw q at h)))

-- it is j where p holds at j and nowhere earlier, and k where it holds nowhere
pub least_is : (p : ℕ → Bool) (k j : ℕ) → j < k → p j ≡ true → ((i : ℕ) → i < j → p i ≡ false) → least p k ≡ j
least_is p k j h at earlier =
    below_or j (least p k)
    (λ l. clash at (least_first p k j l))
    (λ l. below_or (least p k) j (λ m. clash (least_holds p k (omega arith)) (earlier (least p k) m)) (λ m. omega arith))

pub least_none : (p : ℕ → Bool) (k : ℕ) → ((i : ℕ) → i < k → p i ≡ false) → least p k ≡ k
least_none p k never = below_or (least p k) k (λ m. clash (least_holds p k m) (never (least p k) m)) (λ m. omega (arith, least_le p k))
