-- 10 cannot be given once 9 has been passed, as specs/NoTen says. Assumes nothing.
use Prim.Native.Nat.{ℕ, ◌<◌}
use mathlib.Core.Path.{◌≡◌, refl, sym, ◌∙◌}
use mathlib.Core.Bool.{true, false, ◌&&◌}
use mathlib.Core.Logic.{⊎_elim}
use lib.ListN.{length}
use Rattle.rule.specs.Sets.{has, meets, is_empty}
use Rattle.rule.specs.Drawing.{Drawing, count, initial, pair_at, joint}
use Rattle.rule.specs.Acceptance.{good_of}
use Rattle.rule.specs.Operations.{reach_of}
use Rattle.rule.specs.Stopping.{stops_by, stopping_joint}
use Rattle.rule.specs.Joint.{AllAccept}
use Rattle.rule.specs.Refusals.{first_of, stop_at, stopped_pairs, stopped_joint, stopped, conditions}
use Rattle.rule.specs.Given.{NoPair, StopsBy, Stops, by_pair, jointly, BothEmpty}
use Rattle.rule.specs.NoTen.{empties, NoTen}
use Rattle.rule.specs.declared.Refusal.{Refusal}
use Rattle.rule.specs.declared.Refusal.TheVariants.{Stopping}
use Rattle.rule.proofs.BoolLaws.{clash, not_so, chosen, eq_says, eq_fails, and_says, not_says}
use Rattle.rule.proofs.SetLaws.{has_none, true_or, meets_iff}
use Rattle.rule.proofs.StoppingLaws.{all_accept, good_at}
use Rattle.rule.proofs.RefusalLaws.{not_both, sound_or, refuse_sound, else_sound, below_sound_iff, append_more, append_hit, first_one}
use Rattle.rule.proofs.GivenLaws.{conditions_sound}
use Rattle.std.specs.Prelude.{Ok, Err}

-- a set that is empty has no member, and meets no set
none_in : {x : ℕ} (t : ℕ) → x ≡ 0 → has x t ≡ false
none_in t e = rw e (has_none t)

none_met : (x : ℕ) → meets x 0 ≡ false
none_met x = not_so (meets x 0) (λ m. let w = (meets_iff x 0).0 m in clash w.3 (has_none w.0))

module _ (d : Drawing) (i : ℕ) (empty : BothEmpty d i) where
  stops_by_pair : (q : ℕ) → StopsBy d q i
  stops_by_pair q = record { outside = none_in q empty.no_P; reaches_none = λ g. clash g.member (none_in g.state empty.no_R) }

  module _ (used : i < count d) where
    none_accepted : (t : ℕ) → AllAccept d t → ⊥
    none_accepted t all = ⊎_elim (λ m. clash m (none_in t empty.no_R)) (λ m. clash m (none_in t empty.no_P)) (all i used)

    stops : (q : ℕ) → Stops d q
    stops q =
        true_or (joint d)
        (λ j. jointly ((eq_says d.shape.mode 1).0 j) (λ g. none_accepted g.state g.accepted))
        (λ o. by_pair ((eq_fails d.shape.mode 1).0 o) i used (stops_by_pair q))

    -- and the tests of check 9 say so: of the pair, whatever is reached, and of all pairs
    pair_test : (reached q : ℕ) → stops_by (pair_at d i) reached q ≡ true
    unfolding stops_by
    pair_test reached q = rw (empty.no_P, empty.no_R, has_none q, none_met reached)

    module _ (whole : length d.pairs ≡ count d) where
      joint_test : (q : ℕ) → stopping_joint d q ≡ true
      unfolding stopping_joint
      joint_test q =
          (not_says (meets (reach_of d q) (good_of d))).1 (not_so (meets (reach_of d q) (good_of d)) (λ m.
          let w = (meets_iff (reach_of d q) (good_of d)).0 m in
          none_accepted w.0 ((all_accept d whole w.0).0 (sym (good_at d w.0 w.1) ∙ w.3))))

      -- so it does not pass
      not_passed : stopped d ≡ Ok tt → ⊥
      unfolding stopped stopped_pairs stopped_joint
      not_passed =
          chosen (λ v. v ≡ Ok tt → ⊥) (joint d)
          (λ j. rw (joint_test (initial d)) (λ p. not_both ((else_sound (stopped_pairs d) (Err (Stopping (count d)))).0 p).1 refl))
          (λ o p. clash (pair_test (reach_of d (initial d)) (initial d)) ((refuse_sound _ (Stopping i)).0 ((below_sound_iff (stop_at d) (count d)).0 p i used)))

-- condition 10 refuses nothing where no used pair has both sets empty
none_refused : (d : Drawing) (ten : ℕ → Refusal) → NoPair d (BothEmpty d) → empties ten d ≡ Ok tt
unfolding empties is_empty
none_refused d ten none =
    (below_sound_iff _ (count d)).1 (λ i h. (refuse_sound _ (ten i)).1 (not_so (is_empty (pair_at d i).r && is_empty (pair_at d i).p) (λ t.
    let e = (and_says (eq_says (pair_at d i).r 0) (eq_says (pair_at d i).p 0)).0 t in
    none i h (record { no_R = e.0; no_P = e.1 }))))

module _ (d : Drawing) (whole : length d.pairs ≡ count d) where
  passed : stopped d ≡ Ok tt → NoPair d (BothEmpty d)
  passed p i used empty = not_passed d i empty used whole p

  pub no_ten : NoTen d
  no_ten = record {
    stops_by_pair = stops_by_pair d;
    none_accepted = λ i used empty. none_accepted d i empty used;
    stops = λ i used empty. stops d i empty used;
    passed_nine = passed;
    same_verdict = λ ten.
        sound_or (first_of (conditions d))
        (λ s. append_more (conditions d) _ s ∙ first_one (empties ten d) ∙ none_refused d ten (passed (conditions_sound d s).4) ∙ sym s)
        (λ r p. append_hit (conditions d) _ r p ∙ sym p);
  }
