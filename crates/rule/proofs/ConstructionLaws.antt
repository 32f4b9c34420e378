-- The operation and the stopping states of a rule are those of the construction for its class and mode.
-- Assumes nothing.
use Prim.Native.Nat.{ℕ, ◌≤◌, ◌<◌}
use native.Mathlib.Omega.{arith}
use mathlib.Core.Path.{◌≡◌}
use mathlib.Core.Bool.{true, false}
use mathlib.Core.Logic.Iff
use mathlib.Core.Logic.{◌↔◌}
use Rattle.rule.specs.Drawing.{Drawing, states, events, next, joint}
use Rattle.rule.specs.Range.{last_mode}
use Rattle.rule.specs.Joint.{JointMove, JointStop}
use Rattle.rule.specs.Operations.{operation_pairs, operation}
use Rattle.rule.specs.Stopping.{stopping_pairs, stopping}
use Rattle.rule.specs.Classes.{OfClass, safety, guarantee, obligation, response}
use Rattle.rule.specs.Constructions as built
use Rattle.rule.specs.Constructions.{PublishedMove, PublishedStop, BuiltMove, BuiltStop}
use Rattle.rule.specs.WellDrawn.{WellDrawn}
use Rattle.rule.specs.declared.Operation.{Operation}
use Rattle.rule.proofs.BoolLaws.{eq_says, eq_fails}
use Rattle.rule.proofs.StoppingLaws.{joint_stops}
use Rattle.rule.proofs.JointLaws.{joint_moves}
use Rattle.rule.proofs.OperationLaws.{by_mode}
use Rattle.rule.proofs.PublishedLaws.{safety_moves, safety_stops, guarantee_moves, guarantee_stops}
use Rattle.rule.proofs.PublishedLaws.{obligation_moves, obligation_stops, response_moves, response_stops}

module _ (d : Drawing) (well : WellDrawn d) where
  module _ (q e : ℕ) (h : q < states d) (k : e < events d) (a : Operation) (t : ℕ) where
    to_move : {c : ℕ} → OfClass d c → (a ≡ operation_pairs d (next d q e)) × (t ≡ next d q e) → PublishedMove d q e c a t
    to_move (safety s) p = built.safety ((safety_moves d well s q e h k a t).1 p)
    to_move (guarantee g) p = built.guarantee ((guarantee_moves d well g q e h k a t).1 p)
    to_move (obligation o) p = built.obligation ((obligation_moves d well q e h k a t).1 p)
    to_move (response r) p = built.response ((response_moves d well r q e h k a t).1 p)

    from_move : {c : ℕ} → OfClass d c → PublishedMove d q e c a t → (a ≡ operation_pairs d (next d q e)) × (t ≡ next d q e)
    from_move (safety s) (built.safety m) = (safety_moves d well s q e h k a t).0 m
    from_move (guarantee g) (built.guarantee m) = (guarantee_moves d well g q e h k a t).0 m
    from_move (obligation o) (built.obligation m) = (obligation_moves d well q e h k a t).0 m
    from_move (response r) (built.response m) = (response_moves d well r q e h k a t).0 m

    -- of every class: the published monitor has just one move from q at e, that of the operation of mode 0
    pub published_moves : {c : ℕ} → OfClass d c → PublishedMove d q e c a t ↔ ((a ≡ operation_pairs d (next d q e)) × (t ≡ next d q e))
    published_moves f = (from_move f, to_move f)

  module _ (q : ℕ) (h : q < states d) where
    from_stop : {c : ℕ} → OfClass d c → PublishedStop d q c → stopping_pairs d q ≡ true
    from_stop (safety s) (built.safety m) = (safety_stops d well s q h).0 m
    from_stop (guarantee g) (built.guarantee m) = (guarantee_stops d well g q h).0 m
    from_stop (obligation o) (built.obligation m) = (obligation_stops d well q h).0 m
    from_stop (response r) (built.response m) = (response_stops d well r q h).0 m

    to_stop : {c : ℕ} → OfClass d c → stopping_pairs d q ≡ true → PublishedStop d q c
    to_stop (safety s) p = built.safety ((safety_stops d well s q h).1 p)
    to_stop (guarantee g) p = built.guarantee ((guarantee_stops d well g q h).1 p)
    to_stop (obligation o) p = built.obligation ((obligation_stops d well q h).1 p)
    to_stop (response r) p = built.response ((response_stops d well r q h).1 p)

    -- and its stopping states are those of mode 0
    pub published_stops : {c : ℕ} → OfClass d c → PublishedStop d q c ↔ (stopping_pairs d q ≡ true)
    published_stops f = (from_stop f, to_stop f)

-- the mode is 0 where it is in range and not joint
mode_0 : (d : Drawing) → d.shape.mode ≤ last_mode → joint d ≡ false → d.shape.mode ≡ 0
mode_0 d is_in_range n = let m = (eq_fails d.shape.mode 1).0 n in omega arith

-- what a rule's mode leaves of a construction
module _ (d : Drawing) (q e : ℕ) {c : ℕ} {a : Operation} {t : ℕ} (mode : ℕ) where
  move_0 : mode ≡ 0 → BuiltMove d q e c mode a t ↔ PublishedMove d q e c a t
  move_0 z = rw z (by, built.published)
    where
      by : BuiltMove d q e c 0 a t → PublishedMove d q e c a t
      by (built.published m) = m

  move_1 : mode ≡ 1 → BuiltMove d q e c mode a t ↔ JointMove d q e a t
  move_1 z = rw z (by, built.joint)
    where
      by : BuiltMove d q e c 1 a t → JointMove d q e a t
      by (built.joint m) = m

module _ (d : Drawing) (q : ℕ) {c : ℕ} (mode : ℕ) where
  stop_0 : mode ≡ 0 → BuiltStop d q c mode ↔ PublishedStop d q c
  stop_0 z = rw z (by, built.published)
    where
      by : BuiltStop d q c 0 → PublishedStop d q c
      by (built.published s) = s

  stop_1 : mode ≡ 1 → BuiltStop d q c mode ↔ JointStop d q
  stop_1 z = rw z (by, built.joint)
    where
      by : BuiltStop d q c 1 → JointStop d q
      by (built.joint s) = s

module _ (d : Drawing) (well : WellDrawn d) (is_in_range : d.shape.mode ≤ last_mode) {c : ℕ} (f : OfClass d c) where
  -- of every class and mode: the monitor has just one move from q at e, that of the operation
  pub built_moves : (q e : ℕ) → q < states d → e < events d → (a : Operation) (t : ℕ)
      → BuiltMove d q e c d.shape.mode a t ↔ ((a ≡ operation d q e) × (t ≡ next d q e))
  built_moves q e h k a t =
      by_mode d (λ o s. BuiltMove d q e c d.shape.mode a t ↔ ((a ≡ o (next d q e)) × (t ≡ next d q e)))
      (λ n. Iff.trans (move_0 d q e d.shape.mode (mode_0 d is_in_range n)) (published_moves d well q e h k a t f))
      (λ j. Iff.trans (move_1 d q e d.shape.mode ((eq_says d.shape.mode 1).0 j)) (joint_moves d well q e h k a t))

  -- and its stopping states are those of the rule
  pub built_stops : (q : ℕ) → q < states d → BuiltStop d q c d.shape.mode ↔ (stopping d q ≡ true)
  built_stops q h =
      by_mode d (λ o s. BuiltStop d q c d.shape.mode ↔ (s q ≡ true))
      (λ n. Iff.trans (stop_0 d q d.shape.mode (mode_0 d is_in_range n)) (published_stops d well q h f))
      (λ j.
      let one = stop_1 d q d.shape.mode ((eq_says d.shape.mode 1).0 j) in
      let says = joint_stops d well.closed well.few_states well.whole q h in
      (λ s. says.1 (one.0 s), λ p. one.1 (says.0 p)))
