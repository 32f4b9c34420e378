-- A rule is of its stated class exactly when neither refusal 7 nor refusal 8 applies, and what then holds of its pairs.
-- Assumes nothing.
use Prim.Native.Nat.{ℕ, zero, suc, ◌≤◌, ◌<◌, ◌^◌}
use native.Mathlib.Omega.{arith}
use native.Mathlib.Decide.{ℕ_discrete}
use mathlib.Core.Path.{◌≡◌, refl}
use mathlib.Core.Logic.{◌⊎◌, inl, inr, ⊎_elim}
use lib.ListN.{length}
use Rattle.rule.specs.Sets.{has, names_past}
use Rattle.rule.specs.Drawing.{Drawing, states, count, next, pair_at}
use Rattle.rule.specs.Classes.{NoneInto, NoneOut, OfClass, safety, guarantee, obligation, response}
use Rattle.rule.specs.Refusals.{first_of, excess, moves, conditions}
use Rattle.rule.specs.Given.{NoCell, NoPair, BadPair, Names, TooMuch, with_R, with_P, Forbidden, into_P, out_of_R}
use Rattle.rule.specs.Range.{Shaped}
use Rattle.rule.specs.WellDrawn.{WellDrawn}
use Rattle.rule.proofs.BoolLaws.{clash, so, not_so}
use Rattle.rule.proofs.SetLaws.{has_none, names_iff, none_named}
use Rattle.rule.proofs.GivenLaws.{conditions_sound, entries_sound, members_sound, excess_sound, moves_sound}
use Rattle.std.specs.Prelude.{Ok}

-- a number that cannot differ from 0 is 0
zero_if : (x : ℕ) → ((x ≡ 0 → ⊥) → ⊥) → x ≡ 0
zero_if x n = by (ℕ_discrete x 0)
  where
    by : Dec (x ≡ 0) → x ≡ 0
    by (yes e) = e
    by (no d) = absurd (n d)

module _ (d : Drawing) (whole : length d.pairs ≡ count d) where
  abbrev class : ℕ
  class = d.shape.class

  -- from the checks

  module _ (not_more : TooMuch d → ⊥) (none : NoCell d (Forbidden d)) where
    into : (class ≡ 1) ⊎ (class ≡ 3) → (i : ℕ) → i < count d → NoneInto d (pair_at d i).p
    into c i h s e hs he o = not_so (has (pair_at d i).p (next d s e)) (λ m. none s e hs he (into_P i h c o m))

    out : (class ≡ 2) ⊎ (class ≡ 3) → (i : ℕ) → i < count d → NoneOut d (pair_at d i).r
    out c i h s e hs he m = so (has (pair_at d i).r (next d s e)) (λ o. none s e hs he (out_of_R i h c m o))

    no_P : (class ≡ 2) ⊎ (class ≡ 4) → (pair_at d 0).p ≡ 0
    no_P c = zero_if (pair_at d 0).p (λ n. not_more (with_P c n))

    by_class : (c : ℕ) → class ≡ c → 1 ≤ c → c ≤ 4 → (class ≡ 3) ⊎ (count d ≡ 1) → OfClass d c
    by_class zero e a b o = absurd (omega arith)
    by_class (suc zero) e a b o =
        let one : count d ≡ 1 = ⊎_elim (λ t. absurd (omega arith)) (λ t. t) o in
        safety (record { one = one; no_R = zero_if (pair_at d 0).r (λ n. not_more (with_R e n)); none_into = into (inl e) 0 (omega arith) })
    by_class (suc (suc zero)) e a b o =
        let one : count d ≡ 1 = ⊎_elim (λ t. absurd (omega arith)) (λ t. t) o in
        guarantee (record { one = one; no_P = no_P (inl e); none_out = out (inl e) 0 (omega arith) })
    by_class (suc (suc (suc zero))) e a b o = obligation (record { none_into = into (inr e); none_out = out (inr e) })
    by_class (suc (suc (suc (suc zero)))) e a b o =
        let one : count d ≡ 1 = ⊎_elim (λ t. absurd (omega arith)) (λ t. t) o in
        response (record { one = one; no_P = no_P (inr e) })
    by_class (suc (suc (suc (suc (suc c))))) e a b o = absurd (omega arith)

  pub of_class : Shaped d.shape → excess d ≡ Ok tt → moves d ≡ Ok tt → OfClass d class
  of_class shaped e m =
      by_class ((excess_sound d).0 e) ((moves_sound d whole).0 m) class refl shaped.classed.low shaped.classed.high shaped.ranged.one_pair

  -- back to them

  nothing_over : {c : ℕ} → OfClass d c → class ≡ c → TooMuch d → ⊥
  nothing_over (safety s) e (with_R c n) = n s.no_R
  nothing_over (safety s) e (with_P c n) = ⊎_elim (λ k. omega arith) (λ k. omega arith) c
  nothing_over (guarantee g) e (with_R c n) = omega arith
  nothing_over (guarantee g) e (with_P c n) = n g.no_P
  nothing_over (obligation o) e (with_R c n) = omega arith
  nothing_over (obligation o) e (with_P c n) = ⊎_elim (λ k. omega arith) (λ k. omega arith) c
  nothing_over (response r) e (with_R c n) = omega arith
  nothing_over (response r) e (with_P c n) = n r.no_P

  nothing_forbidden : {c : ℕ} → OfClass d c → class ≡ c → NoCell d (Forbidden d)
  nothing_forbidden (safety s) e q a hq ha (into_P i h c o m) =
      let z : i ≡ 0 = omega (arith, s.one) in clash m (rw z (s.none_into q a hq ha (rw z at o)))
  nothing_forbidden (safety s) e q a hq ha (out_of_R i h c m o) = ⊎_elim (λ k. omega arith) (λ k. omega arith) c
  nothing_forbidden (guarantee g) e q a hq ha (into_P i h c o m) = ⊎_elim (λ k. omega arith) (λ k. omega arith) c
  nothing_forbidden (guarantee g) e q a hq ha (out_of_R i h c m o) =
      let z : i ≡ 0 = omega (arith, g.one) in clash (rw z (g.none_out q a hq ha (rw z at m))) o
  nothing_forbidden (obligation b) e q a hq ha (into_P i h c o m) = clash m (b.none_into i h q a hq ha o)
  nothing_forbidden (obligation b) e q a hq ha (out_of_R i h c m o) = clash (b.none_out i h q a hq ha m) o
  nothing_forbidden (response r) e q a hq ha (into_P i h c o m) = ⊎_elim (λ k. omega arith) (λ k. omega arith) c
  nothing_forbidden (response r) e q a hq ha (out_of_R i h c m o) = ⊎_elim (λ k. omega arith) (λ k. omega arith) c

  pub class_checks : OfClass d class → (excess d ≡ Ok tt) × (moves d ≡ Ok tt)
  class_checks k = ((excess_sound d).1 (nothing_over k refl), (moves_sound d whole).1 (nothing_forbidden k refl))

  -- in every class no move leads from outside P into P
  pub none_into_P : {c : ℕ} → OfClass d c → (i : ℕ) → i < count d → NoneInto d (pair_at d i).p
  none_into_P (safety s) i h = let z : i ≡ 0 = omega (arith, s.one) in rw z s.none_into
  none_into_P (guarantee g) i h = let z : i ≡ 0 = omega (arith, g.one) in rw (z, g.no_P) (λ q a hq ha o. has_none (next d q a))
  none_into_P (obligation b) i h = b.none_into i h
  none_into_P (response r) i h = let z : i ≡ 0 = omega (arith, r.one) in rw (z, r.no_P) (λ q a hq ha o. has_none (next d q a))

  -- a drawing that passes the checks is well drawn

  below : NoPair d (BadPair d) → (i : ℕ) → i < count d → (x : ℕ) → (Names (states d) x → BadPair d i) → x < 2 ^ states d
  below n i h x bad =
      none_named (states d) x (not_so (names_past (states d) x) (λ p.
      let g = (names_iff (states d) x).0 p in n i h (bad (record { state = g.0; past = g.1; member = g.2 }))))

  pub well_drawn : Shaped d.shape → first_of (conditions d) ≡ Ok tt → WellDrawn d
  well_drawn shaped p =
      let g = conditions_sound d p in
      let named = (members_sound d).0 g.1 in
      record {
        few_states = shaped.ranged.numbers.few_states;
        initial_in = shaped.ranged.numbers.initial_in;
        closed = (entries_sound d).0 g.0;
        whole = whole;
        R_in = λ i h. below named i h (pair_at d i).r inl;
        P_in = λ i h. below named i h (pair_at d i).p inr;
        none_into = none_into_P (of_class shaped g.2 g.3);
      }
