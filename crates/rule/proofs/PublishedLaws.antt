-- In mode 0 the operation and the stopping states are those of the published constructions, class by class. Assumes nothing.
use Prim.Native.Nat.{ℕ, ◌<◌}
use native.Mathlib.Omega.{arith}
use mathlib.Core.Path.{◌≡◌, refl, sym, ◌∙◌}
use mathlib.Core.Bool.{true, cond}
use mathlib.Core.List.{List, [], ◌∷◌}
use mathlib.Core.Logic.{◌↔◌}
use lib.ListN.{length, get_or}
use Rattle.rule.specs.Sets.{has, meets}
use Rattle.rule.specs.Drawing.{Drawing, states, events, count, next, pair_at, no_pair}
use Rattle.rule.specs.Operations.{greater, smaller, side_p, side_r, value_of, smallest_of, reach_of, operation_pairs}
use Rattle.rule.specs.Stopping.{stopping_pairs}
use Rattle.rule.specs.Classes.{Safety, Guarantee, Response}
use Rattle.rule.specs.Published.{dump, halt, store, Reaches, ReachesNone, SafetyMove, SafetyStop, GuaranteeMove, GuaranteeStop, Beta}
use Rattle.rule.specs.Published.{Gamma, PairValue, BelowAll, ObligationMove, infimum, ObligationStop, ResponseMove, as_guarantee, ResponseStop, ◌⊑◌}
use Rattle.rule.specs.WellDrawn.{WellDrawn}
use Rattle.rule.specs.declared.Pair.{Pair}
use Rattle.rule.specs.declared.Operation.{Operation}
use Rattle.rule.specs.declared.Operation.TheVariants.{Halt, Store, Dump}
use Rattle.rule.proofs.BoolLaws.{clash, not_so, Says}
use Rattle.rule.proofs.SetLaws.{true_or, has_none, meets_iff}
use Rattle.rule.proofs.StoppingLaws.{reaches_says}
use Rattle.rule.proofs.OrderLaws.{same, left_below, right_below, greater_least, smallest_lower, smallest_greatest}
use Rattle.rule.proofs.PairwiseLaws.{stop_says}

-- β is the P side
beta_iff : (x t : ℕ) (a : Operation) → Beta x t a ↔ (a ≡ cond (has x t) Dump Halt)
beta_iff x t a = (to, λ e. true_or (has x t) (λ m. rw (e, m) (dump m)) (λ o. rw (e, o) (halt o)))
  where
    to : {a : Operation} → Beta x t a → a ≡ cond (has x t) Dump Halt
    to (dump m) = rw m
    to (halt o) = rw o

-- the safety rules are those of β at the target
safety_as_beta : (d : Drawing) (x q e : ℕ) {a : Operation} {t : ℕ} → SafetyMove d x q e a t ↔ (Beta x (next d q e) a × (t ≡ next d q e))
safety_as_beta d x q e = (to, λ p. rw p.1 (from p.0))
  where
    to : {a : Operation} {t : ℕ} → SafetyMove d x q e a t → Beta x (next d q e) a × (t ≡ next d q e)
    to (dump m) = (dump m, refl)
    to (halt o) = (halt o, refl)

    from : {a : Operation} → Beta x (next d q e) a → SafetyMove d x q e a (next d q e)
    from (dump m) = dump m
    from (halt o) = halt o

-- the guarantee rules are those of γ at the target, and the response rules add no other
guarantee_as_gamma : (d : Drawing) (x q e : ℕ) {a : Operation} {t : ℕ} → GuaranteeMove d x q e a t ↔ (Gamma d x (next d q e) a × (t ≡ next d q e))
guarantee_as_gamma d x q e = (to, λ p. rw p.1 (from p.0))
  where
    to : {a : Operation} {t : ℕ} → GuaranteeMove d x q e a t → Gamma d x (next d q e) a × (t ≡ next d q e)
    to (dump m) = (dump m, refl)
    to (halt o n) = (halt o n, refl)
    to (store o r) = (store o r, refl)

    from : {a : Operation} → Gamma d x (next d q e) a → GuaranteeMove d x q e a (next d q e)
    from (dump m) = dump m
    from (halt o n) = halt o n
    from (store o r) = store o r

response_as_guarantee : (d : Drawing) (x q e : ℕ) {a : Operation} {t : ℕ} → ResponseMove d x q e a t → GuaranteeMove d x q e a t
response_as_guarantee d x q e (as_guarantee g) = g
response_as_guarantee d x q e (store m o r) = store o r
response_as_guarantee d x q e (halt m o n) = halt o n

-- the side of an empty set is halt
no_side : (reached t : ℕ) → cond (has 0 t) Dump (cond (meets reached 0) Store Halt) ≡ Halt
no_side reached t =
    rw (has_none t, not_so (meets reached 0) (λ m. let g = (meets_iff reached 0).0 m in clash g.3 (has_none g.0)))

greater_halt : (a : Operation) → greater a Halt ≡ a
greater_halt Halt = refl
greater_halt Store = refl
greater_halt Dump = refl

smaller_alone : (a : Operation) → smaller a Dump ≡ a
smaller_alone Halt = refl
smaller_alone Store = refl
smaller_alone Dump = refl

-- of one pair the smallest value is its value
one_value : (ps : List Pair) (reached t : ℕ) → length ps ≡ 1 → smallest_of ps reached t ≡ value_of (get_or ps 0 no_pair) reached t
unfolding smallest_of
one_value [] reached t one = absurd (omega arith)
one_value (p ∷ []) reached t one = smaller_alone (value_of p reached t)
one_value (p ∷ (q ∷ ps)) reached t one = absurd (omega arith)

module _ (d : Drawing) (well : WellDrawn d) where
  -- γ is the R side
  gamma_iff : (x t : ℕ) → t < states d → (a : Operation) → Gamma d x t a ↔ (a ≡ cond (has x t) Dump (cond (meets (reach_of d t) x) Store Halt))
  gamma_iff x t h a = (
    to,
    λ e. true_or (has x t)
        (λ m. rw (e, m) (dump m))
        (λ o. true_or (meets (reach_of d t) x)
        (λ r. rw (e, o, r) (store o (says.0 r)))
        (λ n. rw (e, o, n) (halt o (λ r. clash (says.1 r) n)))),
  )
    where
      says : Says (meets (reach_of d t) x) (Reaches d x t)
      says = reaches_says d well.closed well.few_states t h x

      to : {a : Operation} → Gamma d x t a → a ≡ cond (has x t) Dump (cond (meets (reach_of d t) x) Store Halt)
      to (dump m) = rw m
      to (halt o n) = rw (o, not_so (meets (reach_of d t) x) (λ m. n (says.0 m)))
      to (store o r) = rw (o, says.1 r)

  one_operation : count d ≡ 1 → (t : ℕ) → operation_pairs d t ≡ greater (side_p (pair_at d 0) t) (side_r (pair_at d 0) (reach_of d t) t)
  unfolding operation_pairs value_of
  one_operation one t = one_value d.pairs (reach_of d t) t (well.whole ∙ one)

  -- class 1

  module _ (s : Safety d) (q e : ℕ) (h : q < states d) (k : e < events d) where
    safety_operation : operation_pairs d (next d q e) ≡ side_p (pair_at d 0) (next d q e)
    safety_operation = one_operation s.one (next d q e) ∙ rw (s.no_R, no_side (reach_of d (next d q e)) (next d q e)) (greater_halt _)

    pub safety_moves : (a : Operation) (t : ℕ) → SafetyMove d (pair_at d 0).p q e a t ↔ ((a ≡ operation_pairs d (next d q e)) × (t ≡ next d q e))
    safety_moves a t = (
      λ m. let g = (safety_as_beta d (pair_at d 0).p q e).0 m in ((beta_iff (pair_at d 0).p (next d q e) a).0 g.0 ∙ sym safety_operation, g.1),
      λ p. (safety_as_beta d (pair_at d 0).p q e).1 ((beta_iff (pair_at d 0).p (next d q e) a).1 (p.0 ∙ safety_operation), p.1),
    )

  pub safety_stops : Safety d → (q : ℕ) → q < states d → SafetyStop d (pair_at d 0).p q ↔ (stopping_pairs d q ≡ true)
  safety_stops s q h = (
    λ o. (stop_says d well q h).1 (record {
      pair = 0;
      used = omega (arith, s.one);
      outside = o;
      reaches_none = λ g. clash (rw s.no_R at g.member) (has_none g.state);
    }),
    λ p. let g = (stop_says d well q h).0 p in let z : g.pair ≡ 0 = omega (arith, s.one, g.used) in rw z at g.outside,
  )

  -- classes 2 and 4

  module _ (one : count d ≡ 1) (no_P : (pair_at d 0).p ≡ 0) where
    gamma_operation : (t : ℕ) → operation_pairs d t ≡ side_r (pair_at d 0) (reach_of d t) t
    gamma_operation t = one_operation one t ∙ rw (no_P, has_none t)

    guarantee_move : (q e : ℕ) → q < states d → e < events d → (a : Operation) (t : ℕ)
        → GuaranteeMove d (pair_at d 0).r q e a t ↔ ((a ≡ operation_pairs d (next d q e)) × (t ≡ next d q e))
    guarantee_move q e h k a t =
        let γ = gamma_iff (pair_at d 0).r (next d q e) (well.closed q e h k) a in (
          λ m. let g = (guarantee_as_gamma d (pair_at d 0).r q e).0 m in (γ.0 g.0 ∙ sym (gamma_operation (next d q e)), g.1),
          λ p. (guarantee_as_gamma d (pair_at d 0).r q e).1 (γ.1 (p.0 ∙ gamma_operation (next d q e)), p.1),
        )

    none_stops : (q : ℕ) → q < states d → ReachesNone d (pair_at d 0).r q ↔ (stopping_pairs d q ≡ true)
    none_stops q h = (
      λ n. (stop_says d well q h).1 (record { pair = 0; used = omega arith; outside = rw no_P (has_none q); reaches_none = n }),
      λ p. let g = (stop_says d well q h).0 p in let z : g.pair ≡ 0 = omega (arith, g.used) in rw z at g.reaches_none,
    )

  pub guarantee_moves : Guarantee d → (q e : ℕ) → q < states d → e < events d → (a : Operation) (t : ℕ)
      → GuaranteeMove d (pair_at d 0).r q e a t ↔ ((a ≡ operation_pairs d (next d q e)) × (t ≡ next d q e))
  guarantee_moves g = guarantee_move g.one g.no_P

  pub guarantee_stops : Guarantee d → (q : ℕ) → q < states d → GuaranteeStop d (pair_at d 0).r q ↔ (stopping_pairs d q ≡ true)
  guarantee_stops g = none_stops g.one g.no_P

  pub response_moves : Response d → (q e : ℕ) → q < states d → e < events d → (a : Operation) (t : ℕ)
      → ResponseMove d (pair_at d 0).r q e a t ↔ ((a ≡ operation_pairs d (next d q e)) × (t ≡ next d q e))
  response_moves r q e h k a t =
      let g = guarantee_move r.one r.no_P q e h k a t in
      (λ m. g.0 (response_as_guarantee d (pair_at d 0).r q e m), λ p. as_guarantee (g.1 p))

  pub response_stops : Response d → (q : ℕ) → q < states d → ResponseStop d (pair_at d 0).r q ↔ (stopping_pairs d q ≡ true)
  response_stops r = none_stops r.one r.no_P

  -- class 3

  -- the supremum of β and γ is the pair's value
  pair_value : (i t : ℕ) → t < states d → (v : Operation) → PairValue d (pair_at d i) t v ↔ (v ≡ value_of (pair_at d i) (reach_of d t) t)
  unfolding value_of
  pair_value i t h v =
      let b = beta_iff (pair_at d i).p t in
      let c = gamma_iff (pair_at d i).r t h in
      let β = side_p (pair_at d i) t in
      let γ = side_r (pair_at d i) (reach_of d t) t in (
        λ g.
            let bs = (b g.β).0 g.β_rule in
            let cs = (c g.γ).0 g.γ_rule in
            let lo : β ⊑ v = rw bs at g.β_below in
            let hi : γ ⊑ v = rw cs at g.γ_below in
            same v (greater β γ) (g.least (greater β γ) (rw bs (left_below β γ)) (rw cs (right_below β γ))) (greater_least β γ v lo hi),
        λ e. rw e (record {
          β = β;
          γ = γ;
          β_rule = (b β).1 refl;
          γ_rule = (c γ).1 refl;
          β_below = left_below β γ;
          γ_below = right_below β γ;
          least = greater_least β γ;
        }),
      )

  module _ (t : ℕ) (h : t < states d) where
    -- below the value of every pair is below them as they are computed
    all_below : (a : Operation) → BelowAll d t a ↔ ((i : ℕ) → i < length d.pairs → a ⊑ value_of (pair_at d i) (reach_of d t) t)
    all_below a = (
      λ b i k. b i (omega (arith, well.whole)) _ ((pair_value i t h _).1 refl),
      λ b i k v p. rw ((pair_value i t h v).0 p) (b i (omega (arith, well.whole))),
    )

    lower : BelowAll d t (operation_pairs d t)
    unfolding operation_pairs
    lower = (all_below (operation_pairs d t)).1 (smallest_lower (reach_of d t) t d.pairs)

    greatest : (b : Operation) → BelowAll d t b → b ⊑ operation_pairs d t
    unfolding operation_pairs
    greatest b p = smallest_greatest (reach_of d t) t d.pairs b ((all_below b).0 p)

  pub obligation_moves : (q e : ℕ) → q < states d → e < events d → (a : Operation) (t : ℕ)
      → ObligationMove d q e a t ↔ ((a ≡ operation_pairs d (next d q e)) × (t ≡ next d q e))
  obligation_moves q e h k a t = (to, λ p. rw (p.0, p.1) (infimum (lower n k') (greatest n k')))
    where
      n : ℕ
      n = next d q e

      k' : n < states d
      k' = well.closed q e h k

      to : {a : Operation} {t : ℕ} → ObligationMove d q e a t → (a ≡ operation_pairs d (next d q e)) × (t ≡ next d q e)
      to (infimum {a = a} below least) = (same a (operation_pairs d n) (greatest n k' a below) (least (operation_pairs d n) (lower n k')), refl)

  pub obligation_stops : (q : ℕ) → q < states d → ObligationStop d q ↔ (stopping_pairs d q ≡ true)
  obligation_stops q h = let s = stop_says d well q h in (s.1, s.0)
