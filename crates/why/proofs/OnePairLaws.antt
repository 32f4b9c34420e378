-- With one pair both modes have the same answer, but for the pair that a store names. Assumes nothing.
use Prim.Native.Nat.{ℕ, ◌<◌}
use native.Mathlib.Omega.{arith}
use native.Mathlib.Nat.{lt_of_lt_of_le}
use mathlib.Core.Path.{◌≡◌, refl, sym, ap, ◌∙◌}
use mathlib.Core.Bool.{Bool, true, false, cond}
use lib.Bits.{or_lt}
use lib.Pow.{pow_mono}
use Rattle.rule.specs.Drawing.{Drawing, states, events, count, next, joint, pair_at, in_mode}
use Rattle.rule.specs.Acceptance.{meets_pair, meets_all, good_of}
use Rattle.rule.specs.Operations.{reach_of, operation_at}
use Rattle.rule.specs.Ways.{way_into}
use Rattle.rule.specs.WellDrawn.{WellDrawn}
use Rattle.rule.specs.declared.Operation.{Operation}
use Rattle.rule.specs.declared.Operation.TheVariants.{Halt, Store, Dump}
use Rattle.rule.proofs.SetLaws.{those_is}
use Rattle.rule.proofs.BoolLaws.{itself}
use Rattle.rule.proofs.PairLaws.{says_meets_all}
use Rattle.rule.proofs.BackwardLaws.{same_says}
use Rattle.rule.proofs.ModeLaws.{well_in, one_pair_same}
use Rattle.why.specs.Grounds.{goal_of, unmet_among, lost_pair, wanted_pair, goal_set, way_for, for_store, way_told}
use Rattle.why.proofs.GroundLaws.{goal_is, some_unmet}

module _ (d : Drawing) (well : WellDrawn d) (one : count d ≡ 1) where
  -- the states that the one pair accepts
  goal_good : goal_of (pair_at d 0) ≡ good_of d
  unfolding good_of
  goal_good =
      let wide = pow_mono well.few_states in
      those_is (meets_all d.pairs) (goal_of (pair_at d 0))
      (or_lt 64 (pair_at d 0).r (pair_at d 0).p (lt_of_lt_of_le (well.R_in 0 (omega arith)) wide) (lt_of_lt_of_le (well.P_in 0 (omega arith)) wide))
      (λ s l. goal_is (pair_at d 0) s ∙ same_says (meets_pair (pair_at d 0) s) (meets_all d.pairs s) (itself _) (
        λ m. (says_meets_all d.pairs s).0 m 0 (omega (arith, well.whole)),
        λ m. (says_meets_all d.pairs s).1 (λ i h. let z : i ≡ 0 = omega (arith, well.whole) in rw z m),
      ))

  module _ (t : ℕ) (h : t < states d) where
    -- whatever a store waits for, it is met there
    one_goal : operation_at d t ≡ Store → goal_set d (wanted_pair d t) ≡ good_of d
    unfolding goal_set wanted_pair
    one_goal o = by (joint d) (λ n. some_unmet d well t h o)
      where
        by : (b : Bool) → (b ≡ false → unmet_among d.pairs (count d) t < count d)
            → cond b (good_of d) (goal_of (pair_at d (cond b (count d) (unmet_among d.pairs (count d) t)))) ≡ good_of d
        by true low = refl
        by false low = let z : unmet_among d.pairs (count d) t ≡ 0 = omega (arith, low refl) in rw z goal_good

module _ (d : Drawing) (well : WellDrawn d) (one : count d ≡ 1) (mode t : ℕ) (h : t < states d) where
  pub one_operation : operation_at (in_mode mode d) t ≡ operation_at d t
  one_operation = one_pair_same d well one mode t h

  pub one_lost : lost_pair (in_mode mode d) t ≡ lost_pair d t
  unfolding reach_of
  one_lost = refl

  pub one_told : way_told (in_mode mode d) t ≡ way_told d t
  unfolding way_told way_for good_of
  one_told = by (operation_at d t) refl
    where
      by : (o : Operation) → operation_at d t ≡ o → for_store (operation_at (in_mode mode d) t) (way_for (in_mode mode d) t)
          ≡ for_store (operation_at d t) (way_for d t)
      by Halt q = rw (one_operation, q)
      by Store q =
          rw (one_operation, q)
          (ap (λ (x : ℕ). way_into (next d) (states d) (events d) x t)
          (one_goal (in_mode mode d) (well_in d well mode) one t h (one_operation ∙ q) ∙ sym (one_goal d well one t h q)))
      by Dump q = rw (one_operation, q)
