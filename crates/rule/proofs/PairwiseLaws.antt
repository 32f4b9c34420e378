-- The laws of the operation of mode 0, for any number of pairs: it dumps exactly at an accepting target and halts exactly at a stopping one.
-- Assumes nothing.
use Prim.Native.Nat.{ℕ, ◌<◌}
use native.Mathlib.Omega.{arith}
use mathlib.Core.Path.{◌≡◌, refl, ◌∙◌}
use mathlib.Core.Bool.{Bool, true, false, cond, not, ◌&&◌, ◌||◌}
use mathlib.Core.List.{List, [], ◌∷◌}
use mathlib.Core.Logic.{◌⊎◌, inl, inr, ⊎_elim, ◌↔◌}
use lib.ListN.{length, get_or}
use Rattle.rule.specs.Sets.{has, meets}
use Rattle.rule.specs.Reach.{after, Events, none, more}
use Rattle.rule.specs.Drawing.{Drawing, states, events, count, next, pair_at, no_pair}
use Rattle.rule.specs.Acceptance.{meets_pair, meets_all}
use Rattle.rule.specs.Operations.{greater, smaller, value_of, smallest_of, reach_of, operation_pairs}
use Rattle.rule.specs.Stopping.{stops_by, stops_by_some, stopping_pairs}
use Rattle.rule.specs.Published.{ObligationStop}
use Rattle.rule.specs.Machine.{machine_by, Laws, Sharp}
use Rattle.rule.specs.WellDrawn.{WellDrawn}
use Rattle.rule.specs.declared.Pair.{Pair}
use Rattle.rule.specs.declared.Operation.{Operation}
use Rattle.rule.specs.declared.Operation.TheVariants.{Halt, Store, Dump}
use Rattle.rule.proofs.BoolLaws.{clash, not_so, Says, itself, and_says, or_says}
use Rattle.rule.proofs.PairLaws.{says_meets_all}
use Rattle.rule.proofs.StoppingLaws.{reaches_says, stopping_says}

-- no operation is two
pub apart : {A : Type 0} {o : Operation} → o ≡ Halt → o ≡ Dump → A
apart p q = absurd (let z : ◌≡◌ {A = ℕ} 0 1 = cc in omega arith)

-- the order

pub smaller_dump : (a b : Operation) → (smaller a b ≡ Dump) ↔ ((a ≡ Dump) × (b ≡ Dump))
smaller_dump a b = (to a b, λ p. rw (p.0, p.1))
  where
    to : (a b : Operation) → smaller a b ≡ Dump → (a ≡ Dump) × (b ≡ Dump)
    to Halt b h = apart refl h
    to Store Halt h = apart refl h
    to Store Store h = absurd (let z : ◌≡◌ {A = ℕ} 0 1 = cc in omega arith)
    to Store Dump h = absurd (let z : ◌≡◌ {A = ℕ} 0 1 = cc in omega arith)
    to Dump b h = (refl, h)

pub smaller_halt : (a b : Operation) → (smaller a b ≡ Halt) ↔ ((a ≡ Halt) ⊎ (b ≡ Halt))
smaller_halt a b = (to a b, ⊎_elim (λ p. rw p) (λ p. rw p (right a)))
  where
    to : (a b : Operation) → smaller a b ≡ Halt → (a ≡ Halt) ⊎ (b ≡ Halt)
    to Halt b h = inl refl
    to Store Halt h = inr refl
    to Store Store h = absurd (let z : ◌≡◌ {A = ℕ} 0 1 = cc in omega arith)
    to Store Dump h = absurd (let z : ◌≡◌ {A = ℕ} 0 1 = cc in omega arith)
    to Dump b h = inr h

    right : (a : Operation) → smaller a Halt ≡ Halt
    right Halt = refl
    right Store = refl
    right Dump = refl

-- a pair's value: dump where the target lies in R or P, halt where it does not and reaches no state of R

module _ (p : Pair) (reached t : ℕ) where
  value_dump : (value_of p reached t ≡ Dump) ↔ (meets_pair p t ≡ true)
  unfolding value_of meets_pair
  value_dump = by (has p.p t) (has p.r t) (meets reached p.r)
    where
      by : (a b c : Bool) → (greater (cond a Dump Halt) (cond b Dump (cond c Store Halt)) ≡ Dump) ↔ (b || a ≡ true)
      by true true c = (λ h. refl, λ h. refl)
      by true false c = (λ h. refl, λ h. refl)
      by false true c = (λ h. refl, λ h. refl)
      by false false true = (λ h. absurd (let z : ◌≡◌ {A = ℕ} 0 1 = cc in omega arith), λ h. clash h refl)
      by false false false = (λ h. apart refl h, λ h. clash h refl)

  value_halt : (has p.r t ≡ true → meets reached p.r ≡ true) → (value_of p reached t ≡ Halt) ↔ (stops_by p reached t ≡ true)
  unfolding value_of stops_by
  value_halt = by (has p.p t) (has p.r t) (meets reached p.r)
    where
      by : (a b c : Bool) → (b ≡ true → c ≡ true) → (greater (cond a Dump Halt) (cond b Dump (cond c Store Halt)) ≡ Halt) ↔ (not a && not c ≡ true)
      by true b c i = (λ h. apart h refl, λ h. clash h refl)
      by false true true i = (λ h. apart h refl, λ h. clash h refl)
      by false true false i = clash (i refl) refl
      by false false true i = (λ h. absurd (let z : ◌≡◌ {A = ℕ} 0 1 = cc in omega arith), λ h. clash h refl)
      by false false false i = (λ h. refl, λ h. refl)

-- the smallest value: dump where the target lies in R or P of every pair

pub smallest_dump : (ps : List Pair) (reached t : ℕ) → (smallest_of ps reached t ≡ Dump) ↔ (meets_all ps t ≡ true)
unfolding smallest_of meets_all
smallest_dump [] reached t = (λ h. refl, λ h. refl)
smallest_dump (p ∷ ps) reached t =
    let both = and_says (itself (meets_pair p t)) (itself (meets_all ps t)) in
    let least = smaller_dump (value_of p reached t) (smallest_of ps reached t) in (
      λ h. both.1 ((value_dump p reached t).0 (least.0 h).0, (smallest_dump ps reached t).0 (least.0 h).1),
      λ h. least.1 ((value_dump p reached t).1 (both.0 h).0, (smallest_dump ps reached t).1 (both.0 h).1),
    )

-- and halt where it is stopping by some pair

smallest_halt : (ps : List Pair) (reached t : ℕ) → ((x : ℕ) → has x t ≡ true → meets reached x ≡ true)
    → (smallest_of ps reached t ≡ Halt) ↔ (stops_by_some ps reached t ≡ true)
unfolding smallest_of stops_by_some
smallest_halt [] reached t here = (λ h. apart h refl, λ h. clash h refl)
smallest_halt (p ∷ ps) reached t here =
    let either = or_says (itself (stops_by p reached t)) (itself (stops_by_some ps reached t)) in
    let least = smaller_halt (value_of p reached t) (smallest_of ps reached t) in
    let one = value_halt p reached t (here p.r) in
    let rest = smallest_halt ps reached t here in (
      λ h. either.1 (⊎_elim (λ a. inl (one.0 a)) (λ a. inr (rest.0 a)) (least.0 h)),
      λ h. least.1 (⊎_elim (λ a. inl (one.1 a)) (λ a. inr (rest.1 a)) (either.0 h)),
    )

-- one of R or P is enough where there is one pair
in_pair : (p : Pair) (t : ℕ) → (has p.r t ≡ true) ⊎ (has p.p t ≡ true) → meets_pair p t ≡ true
unfolding meets_pair
in_pair p t = (or_says (itself (has p.r t)) (itself (has p.p t))).1

one_accepts : (ps : List Pair) (t : ℕ) → length ps ≡ 1 → meets_pair (get_or ps 0 no_pair) t ≡ true → meets_all ps t ≡ true
one_accepts ps t one m = (says_meets_all ps t).1 (λ i h. let z : i ≡ 0 = omega arith in rw z m)

-- of a drawing

pub pairs_dump : (d : Drawing) (t : ℕ) → (operation_pairs d t ≡ Dump) ↔ (meets_all d.pairs t ≡ true)
unfolding operation_pairs
pairs_dump d t = smallest_dump d.pairs (reach_of d t) t

module _ (d : Drawing) (well : WellDrawn d) where
  -- q reaches itself: zero moves count
  here : (q : ℕ) → q < states d → (x : ℕ) → has x q ≡ true → meets (reach_of d q) x ≡ true
  here q h x m =
      (reaches_says d well.closed well.few_states q h x).1
      (record { state = q; member = m; leads = record { way = []; known = none; ends = refl } })

  -- a move into t halts exactly where t is stopping
  pub pairs_halt : (t : ℕ) → t < states d → (operation_pairs d t ≡ Halt) ↔ (stopping_pairs d t ≡ true)
  unfolding operation_pairs stopping_pairs
  pairs_halt t h = smallest_halt d.pairs (reach_of d t) t (here t h)

  -- where that is: for some pair outside P and reaching no state of R
  pub stop_says : (q : ℕ) → q < states d → Says (stopping_pairs d q) (ObligationStop d q)
  stop_says q h = stopping_says d well.closed well.few_states q h well.whole

  stop_stays : (q e : ℕ) → q < states d → e < events d → ObligationStop d q → ObligationStop d (next d q e)
  stop_stays q e h k s = record {
    pair = s.pair;
    used = s.used;
    outside = well.none_into s.pair s.used q e h k s.outside;
    reaches_none = λ g. s.reaches_none (record {
      state = g.state;
      member = g.member;
      leads = record { way = e ∷ g.leads.way; known = more k g.leads.known; ends = g.leads.ends };
    });
  }

  stop_after : {w : List ℕ} → Events (events d) w → (q : ℕ) → q < states d → ObligationStop d q → ObligationStop d (after (next d) q w)
  stop_after none q h s = s
  stop_after (more {e = e} k known) q h s = stop_after known (next d q e) (well.closed q e h k) (stop_stays q e h k s)

  stop_unmet : (q : ℕ) → ObligationStop d q → meets_all d.pairs q ≡ true → ⊥
  unfolding meets_pair
  stop_unmet q s m =
      ⊎_elim
      (λ r. s.reaches_none (record { state = q; member = r; leads = record { way = []; known = none; ends = refl } }))
      (λ p. clash p s.outside)
      ((or_says (itself (has (pair_at d s.pair).r q)) (itself (has (pair_at d s.pair).p q))).0
      ((says_meets_all d.pairs q).0 m s.pair (omega (arith, s.used, well.whole))))

  -- the successors of a stopping state are stopping
  pub pairs_stays : (q e : ℕ) → q < states d → e < events d → stopping_pairs d q ≡ true → stopping_pairs d (next d q e) ≡ true
  pairs_stays q e h k s = (stop_says (next d q e) (well.closed q e h k)).1 (stop_stays q e h k ((stop_says q h).0 s))

  -- with it the drawing is a machine that keeps the laws
  pub pairs_laws : Laws (machine_by d (operation_pairs d))
  pairs_laws = record {
    initial_in = well.initial_in;
    next_in = well.closed;
    dump_accepts = λ t h. (pairs_dump d t).0;
    accepts_dump = λ t h. (pairs_dump d t).1;
    halt_never = λ t h p w known m. stop_unmet (after (next d) t w) (stop_after known t h ((stop_says t h).0 ((pairs_halt t h).0 p))) m;
    halt_stays = λ t e h k p. (pairs_halt (next d t e) (well.closed t e h k)).1 (pairs_stays t e h k ((pairs_halt t h).0 p));
  }

  -- with one pair it halts wherever no accepting state is reached
  pub pairs_sharp : count d ≡ 1 → Sharp (machine_by d (operation_pairs d))
  pairs_sharp one = record {
    never_halts = λ t h never.
        let lies : (w : List ℕ) → Events (events d) w → meets_pair (pair_at d 0) (after (next d) t w) ≡ true → ⊥ =
        λ w known m. never w known (one_accepts d.pairs (after (next d) t w) (well.whole ∙ one) m) in
        (pairs_halt t h).1 ((stop_says t h).1 (record {
          pair = 0;
          used = omega arith;
          outside = not_so (has (pair_at d 0).p t) (λ m. lies [] none (in_pair (pair_at d 0) t (inr m)));
          reaches_none = λ g. lies g.leads.way g.leads.known (in_pair (pair_at d 0) _ (inl (rw g.leads.ends g.member)));
        }));
  }
