-- What the reach and the stopping states of a drawing are, in plain words. Assumes nothing.
use Prim.Native.Nat.{ℕ, ◌≤◌, ◌<◌}
use native.Mathlib.Omega.{arith}
use mathlib.Core.Path.{◌≡◌, refl, sym, ◌∙◌}
use mathlib.Core.Logic.{◌⊎◌}
use lib.ListN.{length}
use Rattle.rule.specs.Sets.{has, meets}
use Rattle.rule.specs.Reach.{Leads, Closed}
use Rattle.rule.specs.Drawing.{Drawing, states, events, count, next, pair_at}
use Rattle.rule.specs.Acceptance.{meets_pair, meets_all, good_of}
use Rattle.rule.specs.Operations.{reach_of}
use Rattle.rule.specs.Stopping.{stops_by, stops_by_some, stopping_pairs, stopping_joint}
use Rattle.rule.specs.Published.{In, Out, Reaches, ReachesNone, ObligationStop}
use Rattle.rule.specs.Joint.{AllAccept, ReachesGood, JointStop}
use Rattle.rule.specs.declared.Pair.{Pair}
use Rattle.rule.proofs.BoolLaws.{Says, itself, and_says, or_says, not_says, ne_says, in_words}
use Rattle.rule.proofs.SetLaws.{meets_iff, those_at}
use Rattle.rule.proofs.WayLaws.{after_lt}
use Rattle.rule.proofs.ReachLaws.{reaches_iff}
use Rattle.rule.proofs.PairLaws.{some_says, says_meets_all}

module _ (d : Drawing) (closed : Closed d.table (states d) (events d)) (small : states d ≤ 64) (q : ℕ) (h : q < states d) where
  -- the states that q reaches are those to which some events lead
  pub reach_says : (t : ℕ) → Says (has (reach_of d q) t) (Leads (events d) (next d) q t)
  unfolding reach_of
  reach_says t = reaches_iff d.table (states d) (events d) closed small q h t

  -- and they are states
  pub led_in : {t : ℕ} → Leads (events d) (next d) q t → t < states d
  led_in w = rw (← w.ends) (after_lt (states d) (events d) (next d) closed w.known q h)

  pub reaches_says : (x : ℕ) → Says (meets (reach_of d q) x) (Reaches d x q)
  reaches_says x =
      in_words (meets_iff (reach_of d q) x)
      (λ g. record { state = g.0; member = g.3; leads = (reach_says g.0).0 g.2 })
      (λ g. (g.state, omega (arith, led_in g.leads), (reach_says g.state).1 g.leads, g.member))

  pub stops_says : (p : Pair) → Says (stops_by p (reach_of d q) q) (Out p.p q × ReachesNone d p.r q)
  unfolding stops_by
  stops_says p = and_says (not_says (has p.p q)) (ne_says (reaches_says p.r))

  -- in mode 0 a state is stopping when for some pair it is outside P and reaches no state of R
  pub stopping_says : length d.pairs ≡ count d → Says (stopping_pairs d q) (ObligationStop d q)
  unfolding stopping_pairs stops_by_some
  stopping_says whole =
      in_words
      (some_says (λ ps. stops_by_some ps (reach_of d q) q) (λ p. stops_by p (reach_of d q) q) refl (λ p ps. refl)
      (λ p. Out p.p q × ReachesNone d p.r q) stops_says d.pairs)
      (λ g. record { pair = g.0; used = omega (arith, g.1); outside = g.2.0; reaches_none = g.2.1 })
      (λ g. (g.pair, omega (arith, g.used), (g.outside, g.reaches_none)))

-- joint mode

-- t lies in R or P of the pair
pair_says : (p : Pair) (t : ℕ) → Says (meets_pair p t) (In p.r t ⊎ In p.p t)
unfolding meets_pair
pair_says p t = or_says (itself (has p.r t)) (itself (has p.p t))

-- every pair accepts t
pub all_accept : (d : Drawing) → length d.pairs ≡ count d → (t : ℕ) → Says (meets_all d.pairs t) (AllAccept d t)
all_accept d whole t =
    in_words (says_meets_all d.pairs t)
    (λ f i k. (pair_says (pair_at d i) t).0 (f i (omega arith)))
    (λ f i k. (pair_says (pair_at d i) t).1 (f i (omega arith)))

pub good_at : (d : Drawing) (t : ℕ) → t < 64 → has (good_of d) t ≡ meets_all d.pairs t
unfolding good_of
good_at d t h = those_at (meets_all d.pairs) 64 t (omega arith) h

module _ (d : Drawing) (closed : Closed d.table (states d) (events d)) (small : states d ≤ 64) (whole : length d.pairs ≡ count d)
    (q : ℕ) (h : q < states d) where
  -- some state that every pair accepts is reached
  pub good_says : Says (meets (reach_of d q) (good_of d)) (ReachesGood d q)
  good_says =
      in_words (reaches_says d closed small q h (good_of d))
      (λ (g : Reaches d (good_of d) q). record {
        state = g.state;
        accepted = (all_accept d whole g.state).0 (sym (good_at d g.state (omega (arith, led_in d closed small q h g.leads))) ∙ g.member);
        leads = g.leads;
      })
      (λ (g : ReachesGood d q). record {
        state = g.state;
        member = good_at d g.state (omega (arith, led_in d closed small q h g.leads)) ∙ (all_accept d whole g.state).1 g.accepted;
        leads = g.leads;
      })

  -- stopping states are those that reach none
  pub joint_stops : Says (stopping_joint d q) (JointStop d q)
  unfolding stopping_joint
  joint_stops = ne_says good_says
