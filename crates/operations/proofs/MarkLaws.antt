-- Laws of the two sets: what the loop over the pairs builds, and that they give the operation of every state.
-- Assumes nothing.
use Prim.Native.Nat.{ℕ, ◌-◌, ◌^◌, ◌<◌}
use native.Mathlib.Omega.{arith}
use native.Mathlib.Nat.{lt_of_lt_of_le}
use mathlib.Core.Path.{◌≡◌, refl, sym, ◌∙◌}
use mathlib.Core.Bool.{Bool, true, false, cond, not, ◌&&◌, ◌||◌}
use mathlib.Core.List.{List, [], ◌∷◌}
use lib.ListN.{get_or, take, get_or-eq_default}
use lib.Pow.{pow_mono}
use lib.Bits.{bit_and, bit_or, or_lt}
use borrow.Author.Tests.{eq-eqb, ne_eqb}
use Rattle.std.proofs.Math.Bool.{and_assoc, and-true, or_assoc, or-false}
use Rattle.std.specs.List.{fold}
use Rattle.rule.specs.Sets.{has, Members, those}
use Rattle.rule.specs.Reach.{target}
use Rattle.rule.specs.Backward.{reaching, lost_by, lost_by_some}
use Rattle.rule.specs.Drawing.{Drawing, states, events, count, joint, no_pair, body}
use Rattle.rule.specs.Acceptance.{meets_pair, meets_all, good_of}
use Rattle.rule.specs.Operations.{reach_of, operation_at}
use Rattle.rule.specs.Stopping.{stopping_pairs, stopping_joint, stopping}
use Rattle.rule.specs.WellDrawn.{WellDrawn}
use Rattle.rule.specs.declared.Pair.{Pair}
use Rattle.rule.specs.declared.Shape.{Shape}
use Rattle.rule.specs.declared.Operation.{Operation}
use Rattle.rule.specs.declared.Operation.TheVariants.{Halt, Store, Dump}
use Rattle.rule.proofs.SetLaws.{has_none, below_or, true_or, those_lt, those_at, those_is, has_and, has_or, has_not}
use Rattle.rule.proofs.BoolLaws.{clash}
use Rattle.rule.proofs.BackwardLaws.{reaching_at, lost_stops}
use Rattle.rule.proofs.StoppingLaws.{good_at}
use Rattle.rule.proofs.OperationLaws.{by_mode, operation_dump, operation_halt}
use Rattle.operations.specs.Marks.{operation_in, lost_pairs, lost_joint, marks_of}

-- the states that all pairs accept, one pair at a time: with those of the pairs before, x has the ones of which q holds
abbrev pub with_accepted : ℕ → Pair → ℕ
with_accepted x p = bit_and x (bit_or p.r p.p)

good_from : (ps : List Pair) (x : ℕ) (q : ℕ → Bool) → Members x q → Members (fold with_accepted x ps) (λ t. q t && meets_all ps t)
unfolding meets_all meets_pair
good_from [] x q is t h = is t h ∙ sym (and-true (q t))
good_from (p ∷ ps) x q is t h =
    good_from ps (with_accepted x p) (λ t. q t && meets_pair p t)
    (λ t h. rw (has_and x (bit_or p.r p.p) t, has_or p.r p.p t, is t h)) t h
    ∙ and_assoc (q t) (meets_pair p t) (meets_all ps t)

pub good_all : (ps : List Pair) (good : ℕ) → good < 2 ^ 64 → good ≡ fold with_accepted 18446744073709551615 ps
    → good ≡ those (meets_all ps) 64
good_all ps good fits is = those_is (meets_all ps) good fits (rw (← is) at (good_from ps 18446744073709551615 (λ t. true) all))
  where
    all : Members 18446744073709551615 (λ t. true)
    all t h = rw (has_none t) at (has_not 0 t (omega arith) h)

-- the states that are lost by one of them
module _ (next : ℕ → ℕ → ℕ) (n k : ℕ) where
  abbrev pub with_lost : ℕ → Pair → ℕ
  with_lost x p = bit_or x (those (lost_by next n k p) 64)

  halt_from : (ps : List Pair) (x : ℕ) (q : ℕ → Bool) → Members x q → Members (fold with_lost x ps) (λ t. q t || lost_by_some next n k ps t)
  unfolding lost_by_some
  halt_from [] x q is t h = is t h ∙ sym (or-false (q t))
  halt_from (p ∷ ps) x q is t h =
      halt_from ps (with_lost x p) (λ t. q t || lost_by next n k p t)
      (λ t h. rw (has_or x (those (lost_by next n k p) 64) t, is t h, those_at (lost_by next n k p) 64 t (omega arith) h)) t h
      ∙ or_assoc (q t) (lost_by next n k p t) (lost_by_some next n k ps t)

  pub halt_all : (ps : List Pair) (halt : ℕ) → halt < 2 ^ 64 → halt ≡ fold with_lost 0 ps → halt ≡ those (lost_by_some next n k ps) 64
  halt_all ps halt fits is = those_is (lost_by_some next n k ps) halt fits (rw (← is) at (halt_from ps 0 (λ t. false) (λ t h. has_none t)))

  -- the states lost by one pair
  pub outside : (p : Pair) (back : ℕ) → back ≡ reaching next n k p.r → p.p < 2 ^ 64 → back < 2 ^ 64
      → 2 ^ 64 - 1 - bit_or p.p back ≡ those (lost_by next n k p) 64
  unfolding lost_by
  outside p back is low fits =
      those_is (lost_by next n k p) (2 ^ 64 - 1 - bit_or p.p back) (omega arith)
      (λ t h. rw (has_not (bit_or p.p back) t (or_lt 64 p.p back low fits) h, has_or p.p back t, is) (neither (has p.p t) (has (reaching next n k p.r) t)))
    where
      neither : (a b : Bool) → not (a || b) ≡ not a && not b
      neither true b = refl
      neither false b = refl

-- the two sets by the mode
module _ (h : Shape) (table : List ℕ) (ps used : List Pair) (are : used ≡ take h.pairs ps) (good : ℕ) (is-good : good ≡ those (meets_all used) 64) where
  abbrev D : Drawing
  D = body h table ps

  good_is : good ≡ good_of D
  unfolding good_of
  good_is = rw are at is-good

  pub marks_joint : (back : ℕ) → h.mode ≡ 1 → back ≡ reaching (target table h.events) h.states h.events good → back < 2 ^ 64
      → record { good = good; halt = 2 ^ 64 - 1 - back } ≡ marks_of D
  unfolding marks_of
  marks_joint back j is-back fits =
      let is-halt = those_is (lost_joint D) (2 ^ 64 - 1 - back) (omega arith) (λ t l. has_not back t fits l ∙ rw (is-back, good_is)) in
      rw (eq-eqb h.mode 1 j) (λ i. record { good = good_is i; halt = is-halt i })

  pub marks_pairs : (halt : ℕ) → (h.mode ≡ 1 → ⊥) → halt ≡ those (lost_by_some (target table h.events) h.states h.events used) 64
      → record { good = good; halt = halt } ≡ marks_of D
  unfolding marks_of
  marks_pairs halt n is-halt =
      let e : halt ≡ those (lost_pairs D) 64 = rw are at is-halt in
      rw (ne_eqb h.mode 1 n) (λ i. record { good = good_is i; halt = e i })

-- the operation by the two sets is that of the drawing
module _ (d : Drawing) (well : WellDrawn d) where
  low : (i : ℕ) → (get_or d.pairs i no_pair).r < 2 ^ 64
  low i =
      below_or i (count d)
      (λ l. lt_of_lt_of_le (well.R_in i l) (pow_mono well.few_states))
      (λ l. rw (get_or-eq_default d.pairs no_pair {n = i} (omega (arith, well.whole))) (omega arith))

  lost_alone : (t : ℕ) → t < states d → has (those (lost_pairs d) 64) t ≡ stopping_pairs d t
  unfolding stopping_pairs
  lost_alone t h =
      those_at (lost_pairs d) 64 t (omega arith) (omega (arith, well.few_states)) ∙ lost_stops d d.pairs low well.closed well.few_states t h

  lost_together : (t : ℕ) → t < states d → has (those (lost_joint d) 64) t ≡ stopping_joint d t
  unfolding stopping_joint reach_of good_of
  lost_together t h =
      those_at (lost_joint d) 64 t (omega arith) (omega (arith, well.few_states))
      ∙ rw (reaching_at d.table (states d) (events d) (good_of d) (those_lt (meets_all d.pairs) 64) well.closed well.few_states t h)

  halt_at : (t : ℕ) → t < states d → has (marks_of d).halt t ≡ stopping d t
  unfolding marks_of
  halt_at t h =
      by_mode d (λ o s. has (cond (joint d) (those (lost_joint d) 64) (those (lost_pairs d) 64)) t ≡ s t)
      (λ m. rw m (lost_alone t h))
      (λ m. rw m (lost_together t h))

  pub marks_at : (t : ℕ) → t < states d → operation_in (marks_of d) t ≡ operation_at d t
  unfolding operation_in marks_of
  marks_at t h =
      rw (good_at d t (omega (arith, well.few_states)), halt_at t h)
      (true_or (meets_all d.pairs t)
      (λ m. rw m (sym ((operation_dump d well t h).1 m)))
      (λ n. rw n (true_or (stopping d t)
      (λ s. rw s (sym ((operation_halt d well t h).1 s)))
      (λ o. rw o (else (operation_at d t) (λ p. clash ((operation_dump d well t h).0 p) n) (λ p. clash ((operation_halt d well t h).0 p) o))))))
    where
      else : (o : Operation) → (o ≡ Dump → ⊥) → (o ≡ Halt → ⊥) → Store ≡ o
      else Halt p q = absurd (q refl)
      else Store p q = refl
      else Dump p q = absurd (p refl)
