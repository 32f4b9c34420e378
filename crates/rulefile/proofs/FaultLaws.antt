-- What the tests of the rows 1 to 4 say where they fail, in the words of the table.
-- Assumes nothing.
use Prim.Native.Nat.{ℕ, zero, suc, ◌+◌, ◌-◌, ◌≤◌}
use native.Mathlib.Omega.{arith}
use mathlib.Core.Path.{◌≡◌, refl, sym, ap, ◌∙◌}
use mathlib.Core.Bool.{Bool, true, false, not, ◌&&◌}
use mathlib.Core.List.{List}
use mathlib.Core.Logic.Iff
use mathlib.Core.Logic.{◌⊎◌, inl, inr, ⊎_elim}
use lib.ListN.{length, get_or}
use lib.Seq.{get_or-drop}
use lib.Dec.{leb}
use Rattle.rule.specs.Range.{rule_limits, most_pairs, last_mode, Outside, under, over}
use Rattle.rule.specs.Refusals.{refuse_if}
use Rattle.rule.specs.declared.Shape.{Shape}
use Rattle.rule.specs.declared.Refusal.{Refusal}
use Rattle.rule.proofs.BoolLaws.{Fails, fails_say, le_fails, eq_fails, and_fails, or_fails}
use Rattle.rule.proofs.RangeLaws.{outside_fails, range_fails}
use Rattle.rule.proofs.SetLaws.{below_or}
use Rattle.rule.proofs.RefusalLaws.{not_both, refuse_refused}
use Rattle.trailer.specs.Layout.{table_back, pairs_back}
use Rattle.trailer.specs.Conditions.{framed, classed, ranged, placed}
use Rattle.trailer.specs.declared.Trailer.{Trailer}
use Rattle.rulefile.specs.Given.{trailer_byte, BadFrame, bad_size, byte_10, byte_11, BadClass, BadRange, bad_numbers, bad_m, byte_5, not_one}
use Rattle.rulefile.specs.Given.{BadDistance, to_table, to_pairs, short, note}
use Rattle.std.specs.Prelude.{Ok}

-- what passed a test
pub passed : {A : Type 0} {t : Bool} (x : Refusal) → Fails t A → refuse_if (not t) x ≡ Ok tt → A → ⊥
passed {t = t} x f p a = not_both p ((refuse_refused (not t) x x).1 ((fails_say f).1 a, refl))

-- 1

-- out of range, or another test fails
outside_or : {A : Type 0} {t : Bool} (lo hi x : ℕ) → Fails t A → Fails (leb lo x && (leb x hi && t)) (Outside lo hi x ⊎ A)
outside_or {A} {t} lo hi x g = by (leb lo x) (outside_fails lo hi x)
  where
    by : (a : Bool) → Fails (a && leb x hi) (Outside lo hi x) → Fails (a && (leb x hi && t)) (Outside lo hi x ⊎ A)
    by true f = and_fails f g
    by false f = (λ p. inl (f.0 refl), λ o. refl)

module _ (f : List ℕ) where
  mark_at : (i k : ℕ) → 12 ≤ length f → i + k ≡ 12 → trailer_byte f i ≡ get_or f (length f - k) 0
  mark_at i k h e = get_or-drop (length f - 12) f i 0 ∙ ap (λ (j : ℕ). get_or f j 0) (omega arith)

  pub frame_fails : Fails (framed f) (BadFrame f)
  unfolding framed
  frame_fails =
      Iff.trans
      (outside_or 12 3212 (length f) (and_fails (eq_fails (get_or f (length f - 2) 0) 72) (eq_fails (get_or f (length f - 1) 0) 82))) (
        λ p. below_or (length f) 12 (λ h. bad_size (under h)) (λ h. ⊎_elim bad_size (⊎_elim
            (λ n. byte_10 (λ e. n (sym (mark_at 10 2 h (omega arith)) ∙ e)))
            (λ n. byte_11 (λ e. n (sym (mark_at 11 1 h (omega arith)) ∙ e)))) p),
        λ b. below_or (length f) 12 (λ h. inl (under h)) (λ h. elim b [
          | bad_size o ↦ inl o
          | byte_10 n ↦ inr (inl (λ e. n (mark_at 10 2 h (omega arith) ∙ e)))
          | byte_11 n ↦ inr (inr (λ e. n (mark_at 11 1 h (omega arith) ∙ e)))
        ]),
      )

-- 2 and 3

-- a class that is not 3
other_class : (c : ℕ) → (Outside 1 4 c → ⊥) → (c ≡ 3 → ⊥) → (c ≡ 1) ⊎ (c ≡ 2) ⊎ (c ≡ 4)
other_class zero o n = absurd (o (under (omega arith)))
other_class (suc zero) o n = inl refl
other_class (suc (suc zero)) o n = inr (inl refl)
other_class (suc (suc (suc zero))) o n = absurd (n refl)
other_class (suc (suc (suc (suc zero)))) o n = inr (inr refl)
other_class (suc (suc (suc (suc (suc c))))) o n = absurd (o (over (omega arith)))

module _ (s : Shape) where
  pub class_fails : Fails (classed s) (BadClass s)
  unfolding classed
  class_fails = outside_fails 1 4 s.class

  pub shape_fails : (BadClass s → ⊥) → Fails (ranged s) (BadRange s)
  unfolding ranged
  shape_fails o =
      Iff.trans
      (and_fails (range_fails rule_limits s.states s.events s.initial.0) (and_fails (outside_fails 1 most_pairs s.pairs)
      (and_fails (le_fails s.mode last_mode) (or_fails (eq_fails s.class 3) (eq_fails s.pairs 1))))) (
        ⊎_elim bad_numbers (⊎_elim bad_m (⊎_elim byte_5 (λ p. not_one (other_class s.class o p.0) p.1))),
        λ b. elim b [
          | bad_numbers h ↦ inl h
          | bad_m h ↦ inr (inl h)
          | byte_5 h ↦ inr (inr (inl h))
          | not_one c h ↦ inr (inr (inr (λ e. ⊎_elim (λ k. omega arith) (⊎_elim (λ k. omega arith) (λ k. omega arith)) c, h)))
        ],
      )

-- 4

pub distance_fails : (t : Trailer) (size : ℕ) → Fails (placed t size) (BadDistance t size)
unfolding placed
distance_fails t size =
    Iff.trans
    (and_fails (eq_fails t.pairsback (pairs_back t.shape)) (and_fails (eq_fails t.tableback (table_back t.shape))
    (and_fails (le_fails (table_back t.shape) size) (le_fails (size - table_back t.shape) 1024)))) (
      ⊎_elim to_pairs (⊎_elim to_table (⊎_elim short note)),
      λ b. elim b [ to_pairs h ↦ inl h | to_table h ↦ inr (inl h) | short h ↦ inr (inr (inl h)) | note h ↦ inr (inr (inr h)) ],
    )
