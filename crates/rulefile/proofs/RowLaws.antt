-- The rows of the tables, and the verdicts that decide them.
-- Assumes nothing.
use Prim.Native.Nat.{ℕ, ◌≤◌, ◌<◌}
use mathlib.Core.Path.{◌≡◌, refl, subst}
use mathlib.Core.Bool.{Bool, not}
use mathlib.Core.List.{◌∷◌}
use mathlib.Core.Logic.Iff
use lib.ListN.{length}
use Rattle.rule.specs.Reach.{Closed}
use Rattle.rule.specs.Drawing.{Drawing, states, events, count, initial, state_no, event_no}
use Rattle.rule.specs.Range.{over, bad_N, bad_initial}
use Rattle.rule.specs.Refusals.{refuse_if, first_of, entries, members, excess, moves, stopped, conditions, conditions_order}
use Rattle.rule.specs.Given.{Table, FirstCell, BadEntry, BadMember, TooMuch, Forbidden, StoppedBy}
use Rattle.rule.specs.declared.Refusal.{Refusal}
use Rattle.rule.specs.declared.Refusal.TheVariants.{Class, Range, Distance, Entry, Member, Excess, Move, Stopping}
use Rattle.rule.proofs.SetLaws.{below_or}
use Rattle.rule.proofs.BoolLaws.{Fails, fails_say}
use Rattle.rule.proofs.GivenLaws.{entries_sound, entries_refused, members_refused, excess_refused, moves_refused, stopped_refused}
use Rattle.rule.proofs.TableLaws.{Within, Decides, Answers, decided, end, then}
use Rattle.trailer.specs.Conditions.{class, range}
use Rattle.rulefile.specs.Given.{BadClass, BadRange, bad_numbers, bad_m, drawing_order, DrawingRow, at_2, at_3, at_4, at_5, at_6}
use Rattle.rulefile.specs.Given.{at_7, at_8, at_9}
use Rattle.rulefile.proofs.FaultLaws.{passed, class_fails, shape_fails}

module _ (d : Drawing) (far : Type 0) where
  abbrev T : Table
  T = DrawingRow d far

  pub drawing_within : Within drawing_order T
  drawing_within n x (at_2 a) = record { number = refl; listed = refl }
  drawing_within n x (at_3 a) = record { number = refl; listed = refl }
  drawing_within n x (at_4 a) = record { number = refl; listed = refl }
  drawing_within n x (at_5 a) = record { number = refl; listed = refl }
  drawing_within n x (at_6 a) = record { number = refl; listed = refl }
  drawing_within n x (at_7 a) = record { number = refl; listed = refl }
  drawing_within n x (at_8 a) = record { number = refl; listed = refl }
  drawing_within n x (at_9 a) = record { number = refl; listed = refl }

  -- a row that gives x gives what x is
  same : {n : ℕ} {x y : Refusal} → x ≡ y → T n x → T n y
  same {n} e = subst (λ (z : Refusal). T n z) e

  row_2 : {t : Bool} → Fails t (BadClass d.shape) → Decides T 2 (refuse_if (not t) Class)
  row_2 f = decided T 2 (fails_say f) at_2 says
    where
      says : (y : Refusal) → T 2 y → (Class ≡ y) × (BadClass d.shape)
      says y (at_2 a) = (refl, a)

  row_3 : {t : Bool} → Fails t (BadRange d.shape) → Decides T 3 (refuse_if (not t) Range)
  row_3 f = decided T 3 (fails_say f) at_3 says
    where
      says : (y : Refusal) → T 3 y → (Range ≡ y) × (BadRange d.shape)
      says y (at_3 a) = (refl, a)

  row_4 : {t : Bool} → Fails t far → Decides T 4 (refuse_if (not t) Distance)
  row_4 f = decided T 4 (fails_say f) at_4 says
    where
      says : (y : Refusal) → T 4 y → (Distance ≡ y) × far
      says y (at_4 a) = (refl, a)

  row_5 : Decides T 5 (entries d)
  row_5 y = Iff.trans (entries_refused d y) (λ h. same h.2 (at_5 h.3), says)
    where
      says : {y : Refusal} → T 5 y → (s e : ℕ) × (Entry (state_no s) (event_no e) ≡ y) × FirstCell d (BadEntry d) s e
      says (at_5 a) = (_, _, refl, a)

  row_6 : Decides T 6 (members d)
  row_6 y = Iff.trans (members_refused d y) (λ h. same h.2 (at_6 h.3), says)
    where
      says : {y : Refusal} → T 6 y → (i side : ℕ) × (Member i side ≡ y) × BadMember d i side
      says (at_6 a) = (_, _, refl, a)

  row_7 : Decides T 7 (excess d)
  row_7 y = Iff.trans (excess_refused d y) (λ h. same h.0 (at_7 h.1), says)
    where
      says : {y : Refusal} → T 7 y → (Excess ≡ y) × TooMuch d
      says (at_7 a) = (refl, a)

  row_8 : length d.pairs ≡ count d → Decides T 8 (moves d)
  row_8 whole y = Iff.trans (moves_refused d whole y) (λ h. same h.2 (at_8 h.3), says)
    where
      says : {y : Refusal} → T 8 y → (s e : ℕ) × (Move (state_no s) (event_no e) ≡ y) × FirstCell d (Forbidden d) s e
      says (at_8 a) = (_, _, refl, a)

  row_9 : Closed d.table (states d) (events d) → states d ≤ 64 → initial d < states d → length d.pairs ≡ count d → Decides T 9 (stopped d)
  row_9 closed few start whole y = Iff.trans (stopped_refused d closed few start whole y) (λ h. same h.1 (at_9 h.2), says)
    where
      says : {y : Refusal} → T 9 y → (i : ℕ) × (Stopping i ≡ y) × StoppedBy d i
      says (at_9 a) = (_, refl, a)

  -- 5 to 9
  drawing_rows : length d.pairs ≡ count d → states d ≤ 64 → initial d < states d → Answers T conditions_order (first_of (conditions d))
  unfolding first_of
  drawing_rows whole few start =
      then (entries d) row_5 (λ closed.
      then (members d) row_6 (λ _.
      then (excess d) row_7 (λ _.
      then (moves d) (row_8 whole) (λ _.
      then (stopped d) (row_9 ((entries_sound d).0 closed) few start whole) (λ _. end)))))

  -- 2 to 9
  pub shape_rows : {t : Bool} → Fails t far → (count d ≤ 8 → length d.pairs ≡ count d)
      → Answers T drawing_order (first_of (class d.shape ∷ range d.shape ∷ refuse_if (not t) Distance ∷ conditions d))
  unfolding first_of
  shape_rows {t} four whole =
      then (class d.shape) (row_2 (class_fails d.shape)) (λ two.
      let of_range = shape_fails d.shape (passed Class (class_fails d.shape) two) in
      then (range d.shape) (row_3 of_range) (λ three.
      let is_in_range = passed Range of_range three in
      then (refuse_if (not t) Distance) (row_4 four) (λ _.
      drawing_rows
      (whole (below_or 8 (count d) (λ h. absurd (is_in_range (bad_m (over h)))) (λ h. h)))
      (below_or 64 (states d) (λ h. absurd (is_in_range (bad_numbers (bad_N (over h))))) (λ h. h))
      (below_or (initial d) (states d) (λ h. h) (λ h. absurd (is_in_range (bad_numbers (bad_initial h))))))))
