-- The laws of the operation of joint mode, for any number of pairs: it dumps exactly at an accepting target and halts exactly where no accepting state is
-- reached. Assumes nothing.
use Prim.Native.Nat.{ℕ, ◌<◌}
use native.Mathlib.Omega.{arith}
use mathlib.Core.Path.{◌≡◌, refl}
use mathlib.Core.Bool.{Bool, true, false, cond, not}
use mathlib.Core.List.{[], ◌∷◌}
use mathlib.Core.Logic.{◌↔◌}
use Rattle.rule.specs.Sets.{meets}
use Rattle.rule.specs.Reach.{after, none, more}
use Rattle.rule.specs.Drawing.{Drawing, states, events, next}
use Rattle.rule.specs.Acceptance.{meets_all, good_of}
use Rattle.rule.specs.Operations.{reach_of, operation_joint}
use Rattle.rule.specs.Stopping.{stopping_joint}
use Rattle.rule.specs.Joint.{AllAccept, ReachesGood, JointMove, dump, halt, store, JointStop}
use Rattle.rule.specs.Machine.{machine_by, NeverAccepts, Laws, Sharp}
use Rattle.rule.specs.WellDrawn.{WellDrawn}
use Rattle.rule.specs.declared.Operation.{Operation}
use Rattle.rule.specs.declared.Operation.TheVariants.{Halt, Store, Dump}
use Rattle.rule.proofs.BoolLaws.{clash, not_so, Says}
use Rattle.rule.proofs.SetLaws.{true_or}
use Rattle.rule.proofs.StoppingLaws.{all_accept, good_says, joint_stops}
use Rattle.rule.proofs.PairwiseLaws.{apart}

-- the operation by its two tests: accepting, and reaching an accepting state
by_tests : (a r : Bool) → (a ≡ true → r ≡ true)
    → ((cond a Dump (cond r Store Halt) ≡ Dump) ↔ (a ≡ true)) × ((cond a Dump (cond r Store Halt) ≡ Halt) ↔ (not r ≡ true))
by_tests true true i = ((λ h. refl, λ h. refl), (λ h. apart h refl, λ h. clash h refl))
by_tests true false i = clash (i refl) refl
by_tests false true i = (
  (λ h. absurd (let z : ◌≡◌ {A = ℕ} 0 1 = cc in omega arith), λ h. clash h refl),
  (λ h. absurd (let z : ◌≡◌ {A = ℕ} 0 1 = cc in omega arith), λ h. clash h refl),
)
by_tests false false i = ((λ h. apart refl h, λ h. clash h refl), (λ h. refl, λ h. refl))

module _ (d : Drawing) (well : WellDrawn d) where
  -- every pair accepts t
  abbrev accepted_by : (t : ℕ) → Says (meets_all d.pairs t) (AllAccept d t)
  accepted_by = all_accept d well.whole

  module _ (q : ℕ) (h : q < states d) where
    abbrev good : Says (meets (reach_of d q) (good_of d)) (ReachesGood d q)
    good = good_says d well.closed well.few_states well.whole q h

    abbrev stops : Says (stopping_joint d q) (JointStop d q)
    stops = joint_stops d well.closed well.few_states well.whole q h

    -- it is stopping where no events lead from it to an accepting state
    never_stops : NeverAccepts (machine_by d (operation_joint d)) q ↔ JointStop d q
    never_stops = (
      λ n g. n g.leads.way g.leads.known (rw g.leads.ends ((accepted_by g.state).1 g.accepted)),
      λ s w known m. s (record { state = after (next d) q w; accepted = (accepted_by _).0 m; leads = record { way = w; known = known; ends = refl } }),
    )

    -- an accepting state reaches itself: zero moves count
    tests : ((operation_joint d q ≡ Dump) ↔ (meets_all d.pairs q ≡ true)) × ((operation_joint d q ≡ Halt) ↔ (stopping_joint d q ≡ true))
    unfolding operation_joint stopping_joint
    tests =
        by_tests (meets_all d.pairs q) (meets (reach_of d q) (good_of d))
        (λ m. good.1 (record { state = q; accepted = (accepted_by q).0 m; leads = record { way = []; known = none; ends = refl } }))

    -- a move into q dumps exactly where every pair accepts q, and halts exactly where q is stopping
    pub joint_dump : (operation_joint d q ≡ Dump) ↔ (meets_all d.pairs q ≡ true)
    joint_dump = tests.0

    pub joint_halt : (operation_joint d q ≡ Halt) ↔ (stopping_joint d q ≡ true)
    joint_halt = tests.1

    joint_never : (operation_joint d q ≡ Halt) ↔ NeverAccepts (machine_by d (operation_joint d)) q
    joint_never = (
      λ p. never_stops.1 (stops.0 (joint_halt.0 p)),
      λ n. joint_halt.1 (stops.1 (never_stops.0 n)),
    )

  -- the successors of a stopping state are stopping
  pub joint_stays : (q e : ℕ) → q < states d → e < events d → stopping_joint d q ≡ true → stopping_joint d (next d q e) ≡ true
  joint_stays q e h k s =
      (stops (next d q e) (well.closed q e h k)).1 (λ g. (stops q h).0 s (record {
        state = g.state;
        accepted = g.accepted;
        leads = record { way = e ∷ g.leads.way; known = more k g.leads.known; ends = g.leads.ends };
      }))

  -- with it the drawing is a machine that keeps the laws, and halts wherever no accepting state is reached
  pub joint_laws : Laws (machine_by d (operation_joint d))
  joint_laws = record {
    initial_in = well.initial_in;
    next_in = well.closed;
    dump_accepts = λ t h. (joint_dump t h).0;
    accepts_dump = λ t h. (joint_dump t h).1;
    halt_never = λ t h. (joint_never t h).0;
    halt_stays = λ t e h k p. (joint_halt (next d t e) (well.closed t e h k)).1 (joint_stays t e h k ((joint_halt t h).0 p));
  }

  pub joint_sharp : Sharp (machine_by d (operation_joint d))
  joint_sharp = record { never_halts = λ t h. (joint_never t h).1 }

  -- the moves are those of the construction, and no other's
  pub joint_moves : (q e : ℕ) → q < states d → e < events d → (a : Operation) (t : ℕ)
      → JointMove d q e a t ↔ ((a ≡ operation_joint d (next d q e)) × (t ≡ next d q e))
  unfolding operation_joint
  joint_moves q e h k a t = (
    to,
    λ p. true_or (meets_all d.pairs n)
        (λ m. rw (p.0, p.1, m) (dump ((accepted_by n).0 m)))
        (λ o. true_or (meets (reach_of d n) (good_of d))
        (λ r. rw (p.0, p.1, o, r) (store (λ f. clash ((accepted_by n).1 f) o) (reached.0 r)))
        (λ u. rw (p.0, p.1, o, u) (halt (λ g. clash (reached.1 g) u)))),
  )
    where
      n : ℕ
      n = next d q e

      reached : Says (meets (reach_of d n) (good_of d)) (ReachesGood d n)
      reached = good n (well.closed q e h k)

      to : {a : Operation} {t : ℕ} → JointMove d q e a t → (a ≡ cond (meets_all d.pairs n) Dump (cond (meets (reach_of d n) (good_of d)) Store Halt)) × (t ≡ n)
      to (dump f) = (rw ((accepted_by n).1 f), refl)
      to (halt s) = (
        rw (
          not_so (meets_all d.pairs n)
              (λ m. s (record { state = n; accepted = (accepted_by n).0 m; leads = record { way = []; known = none; ends = refl } })),
          not_so (meets (reach_of d n) (good_of d)) (λ r. s (reached.0 r)),
        ),
        refl,
      )
      to (store o g) = (rw (not_so (meets_all d.pairs n) (λ m. o ((accepted_by n).0 m)), reached.1 g), refl)
