-- The construction for each class and mode: which moves the monitor of a rule has, and which states stop it. In mode 0 it is the published one of the class.
-- Assumes nothing.
use Rattle.std.specs.Prelude.{ℕ}
use Rattle.rule.specs.Drawing.{Drawing, pair_at}
use Rattle.rule.specs.Published.{SafetyMove, SafetyStop, GuaranteeMove, GuaranteeStop, ObligationMove, ObligationStop, ResponseMove, ResponseStop}
use Rattle.rule.specs.Joint.{JointMove, JointStop}
use Rattle.rule.specs.declared.Operation.{Operation}

-- in the monitor of a rule of the class, the move from q at e does the operation and leads to the state
pub data PublishedMove (d : Drawing) (q e : ℕ) : (class : ℕ) → Operation → ℕ → Type 0 where
  safety : {a : Operation} {t : ℕ} → SafetyMove d (pair_at d 0).p q e a t → PublishedMove d q e 1 a t
  guarantee : {a : Operation} {t : ℕ} → GuaranteeMove d (pair_at d 0).r q e a t → PublishedMove d q e 2 a t
  obligation : {a : Operation} {t : ℕ} → ObligationMove d q e a t → PublishedMove d q e 3 a t
  response : {a : Operation} {t : ℕ} → ResponseMove d (pair_at d 0).r q e a t → PublishedMove d q e 4 a t

-- q is one of its stopping states
pub data PublishedStop (d : Drawing) (q : ℕ) : (class : ℕ) → Type 0 where
  safety : SafetyStop d (pair_at d 0).p q → PublishedStop d q 1
  guarantee : GuaranteeStop d (pair_at d 0).r q → PublishedStop d q 2
  obligation : ObligationStop d q → PublishedStop d q 3
  response : ResponseStop d (pair_at d 0).r q → PublishedStop d q 4

-- by the mode: 0 as published for the class, 1 joint for every class
pub data BuiltMove (d : Drawing) (q e : ℕ) : (class mode : ℕ) → Operation → ℕ → Type 0 where
  published : {c : ℕ} {a : Operation} {t : ℕ} → PublishedMove d q e c a t → BuiltMove d q e c 0 a t
  joint : {c : ℕ} {a : Operation} {t : ℕ} → JointMove d q e a t → BuiltMove d q e c 1 a t

pub data BuiltStop (d : Drawing) (q : ℕ) : (class mode : ℕ) → Type 0 where
  published : {c : ℕ} → PublishedStop d q c → BuiltStop d q c 0
  joint : {c : ℕ} → JointStop d q → BuiltStop d q c 1
