-- The lowest pair that a search over the pairs finds.
-- Assumes nothing.
use mathlib.Core.Path.{◌≡◌, sym}
use mathlib.Core.Bool.{Bool, true, false, not, ◌||◌}
use mathlib.Core.List.{List}
use Prim.Native.Nat.{ℕ, ◌<◌}
use native.Mathlib.Omega.{arith}
use lib.ListN.{length, get_or}
use Rattle.std.specs.List.{AllWithin, HoldsAt}
use Rattle.rule.specs.Sets.{has}
use Rattle.rule.specs.Drawing.{no_pair}
use Rattle.rule.specs.Acceptance.{meets_pair}
use Rattle.rule.specs.Stopping.{stops_by}
use Rattle.rule.specs.Ways.{least}
use Rattle.rule.specs.declared.Pair.{Pair}
use Rattle.why.specs.Grounds.{lost_among, unmet_among}
use Rattle.rule.proofs.LeastLaws.{least_is, least_none}

pub met_is : (p : Pair) (t : ℕ) (a b : Bool) → a ≡ has p.r t → b ≡ has p.p t → (a || b) ≡ meets_pair p t
unfolding meets_pair
met_is p t a b ia ib = rw (ia, ib)

-- the first of the pairs that passes the test, or how many there are
module _ (test : Pair → Bool) (ps : List Pair) (n : ℕ) (all : length ps ≡ n) where
  found : (i : ℕ) → i < length ps → HoldsAt (λ p. test p ≡ true) ps i → AllWithin (λ p. test p ≡ false) ps 0 i
      → i ≡ least (λ j. test (get_or ps j no_pair)) n
  found i h at before = sym (least_is (λ j. test (get_or ps j no_pair)) n i (omega arith) (at no_pair) (λ j l. before j no_pair (omega arith) l))

  none : AllWithin (λ p. test p ≡ false) ps 0 (length ps) → n ≡ least (λ j. test (get_or ps j no_pair)) n
  none before = sym (least_none (λ j. test (get_or ps j no_pair)) n (λ j l. before j no_pair (omega arith) (omega arith)))

module _ (ps : List Pair) (n : ℕ) (all : length ps ≡ n) (t : ℕ) where
  module _ (x : ℕ) where
    pub lost_found : (i : ℕ) → i < length ps → HoldsAt (λ p. stops_by p x t ≡ true) ps i → AllWithin (λ p. stops_by p x t ≡ false) ps 0 i
        → i ≡ lost_among ps n x t
    unfolding lost_among
    lost_found = found (λ p. stops_by p x t) ps n all

    pub lost_none : AllWithin (λ p. stops_by p x t ≡ false) ps 0 (length ps) → n ≡ lost_among ps n x t
    unfolding lost_among
    lost_none = none (λ p. stops_by p x t) ps n all

  pub unmet_found : (i : ℕ) → i < length ps → HoldsAt (λ p. not (meets_pair p t) ≡ true) ps i → AllWithin (λ p. not (meets_pair p t) ≡ false) ps 0 i
      → i ≡ unmet_among ps n t
  unfolding unmet_among
  unmet_found = found (λ p. not (meets_pair p t)) ps n all

  pub unmet_none : AllWithin (λ p. not (meets_pair p t) ≡ false) ps 0 (length ps) → n ≡ unmet_among ps n t
  unfolding unmet_among
  unmet_none = none (λ p. not (meets_pair p t)) ps n all
