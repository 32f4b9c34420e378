-- The laws of the operation, over both modes: it dumps exactly at an accepting target and halts exactly at a stopping one.
-- With them a drawing is a machine that keeps the laws. Assumes nothing.
use Prim.Native.Nat.{ℕ, ◌<◌}
use mathlib.Core.Path.{◌≡◌, refl}
use mathlib.Core.Bool.{Bool, true, false, cond}
use mathlib.Core.List.{List, [], ◌∷◌}
use mathlib.Core.Logic.{◌⊎◌, ⊎_elim, ◌↔◌}
use Rattle.rule.specs.Drawing.{Drawing, states, events, count, next, joint}
use Rattle.rule.specs.Acceptance.{meets_all, accepts}
use Rattle.rule.specs.Operations.{operation_pairs, operation_joint, operation_at, operation}
use Rattle.rule.specs.Stopping.{stopping_pairs, stopping_joint, stopping}
use Rattle.rule.specs.Machine.{machine_by, machine_of, accepts_by, Laws, Sharp}
use Rattle.rule.specs.WellDrawn.{WellDrawn}
use Rattle.rule.specs.declared.Operation.{Operation}
use Rattle.rule.specs.declared.Operation.TheVariants.{Halt, Dump}
use Rattle.rule.proofs.BoolLaws.{clash, eq_says}
use Rattle.rule.proofs.PairwiseLaws.{pairs_dump, pairs_halt, pairs_stays, pairs_laws, pairs_sharp}
use Rattle.rule.proofs.JointLaws.{joint_dump, joint_halt, joint_stays, joint_laws, joint_sharp}

-- what holds of the operation and the stopping states of both modes holds of those of the drawing
pub by_mode : (d : Drawing) (P : (ℕ → Operation) → (ℕ → Bool) → Type 0) → (joint d ≡ false → P (operation_pairs d) (stopping_pairs d))
    → (joint d ≡ true → P (operation_joint d) (stopping_joint d)) → P (operation_at d) (stopping d)
unfolding operation_at stopping
by_mode d P pairs all = by (joint d) pairs all
  where
    by : (b : Bool) → (b ≡ false → P (operation_pairs d) (stopping_pairs d)) → (b ≡ true → P (operation_joint d) (stopping_joint d))
        → P (λ t. cond b (operation_joint d t) (operation_pairs d t)) (λ q. cond b (stopping_joint d q) (stopping_pairs d q))
    by true pairs all = all refl
    by false pairs all = pairs refl

module _ (d : Drawing) (well : WellDrawn d) where
  pub operation_dump : (t : ℕ) → t < states d → (operation_at d t ≡ Dump) ↔ (meets_all d.pairs t ≡ true)
  operation_dump =
      by_mode d (λ o s. (t : ℕ) → t < states d → (o t ≡ Dump) ↔ (meets_all d.pairs t ≡ true)) (λ m t h. pairs_dump d t) (λ m. joint_dump d well)

  -- a move into t halts exactly where t is stopping
  pub operation_halt : (t : ℕ) → t < states d → (operation_at d t ≡ Halt) ↔ (stopping d t ≡ true)
  operation_halt =
      by_mode d (λ o s. (t : ℕ) → t < states d → (o t ≡ Halt) ↔ (s t ≡ true)) (λ m. pairs_halt d well) (λ m. joint_halt d well)

  -- the successors of a stopping state are stopping, and every move out of it halts
  pub stopping_stays : (q e : ℕ) → q < states d → e < events d → stopping d q ≡ true → stopping d (next d q e) ≡ true
  stopping_stays =
      by_mode d (λ o s. (q e : ℕ) → q < states d → e < events d → s q ≡ true → s (next d q e) ≡ true) (λ m. pairs_stays d well) (λ m. joint_stays d well)

  pub stopping_halts : (q e : ℕ) → q < states d → e < events d → stopping d q ≡ true → operation d q e ≡ Halt
  stopping_halts q e h k s = (operation_halt (next d q e) (well.closed q e h k)).1 (stopping_stays q e h k s)

  -- the drawing as a machine keeps the laws
  pub laws : Laws (machine_of d)
  laws = by_mode d (λ o s. Laws (machine_by d o)) (λ m. pairs_laws d well) (λ m. joint_laws d well)

  -- with one pair, and in joint mode with any number, it halts wherever no accepting state is reached
  pub sharp : (d.shape.mode ≡ 1) ⊎ (count d ≡ 1) → Sharp (machine_of d)
  sharp one =
      by_mode d (λ o s. Sharp (machine_by d o))
      (λ m. pairs_sharp d well (⊎_elim (λ j. clash ((eq_says d.shape.mode 1).1 j) m) (λ k. k) one))
      (λ m. joint_sharp d well)

pub accepts_machine : (d : Drawing) (w : List ℕ) → accepts d w ≡ accepts_by (machine_of d) w
unfolding accepts
accepts_machine d [] = refl
accepts_machine d (e ∷ w) = refl
