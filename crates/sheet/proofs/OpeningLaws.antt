-- Laws of opening a sheet: when it is refused, and what is known of one that is not.
-- Assumes nothing.
use Prim.Native.Nat.{ℕ, ◌+◌, ◌*◌, ◌<◌}
use native.Mathlib.Omega.{arith}
use mathlib.Core.Path.{◌≡◌, refl, sym}
use mathlib.Core.Bool.{Bool, true, false, cond, not}
use mathlib.Core.List.{List}
use mathlib.Core.Logic.Iff
use mathlib.Core.Logic.{inl, inr, ⊎_elim, ◌↔◌}
use lib.Arith.{digits_lt}
use lib.ListN.{length}
use Rattle.std.specs.Prelude.{Ok, Err}
use Rattle.rule.specs.declared.Refusal.{Refusal}
use Rattle.rule.specs.declared.Refusal.TheVariants.{Sheet}
use Rattle.rule.specs.Reach.{place_of}
use Rattle.rule.specs.Range.{rule_limits, InRange}
use Rattle.rule.proofs.BoolLaws.{Says, and_says, eq_says, le_says, in_words, Fails, fails_say, le_fails, eq_fails, and_fails}
use Rattle.rule.proofs.RangeLaws.{range_says, range_fails}
use Rattle.sheet.specs.Given.{BadSheet, short, unmarked, out_of_range, wrong_distance, wrong_length, GoodSheet}
use Rattle.sheet.specs.Layout.{head_in}
use Rattle.sheet.specs.Opening.{opens, opened_of}
use Rattle.sheet.specs.declared.Head.{Head}

-- a sheet opens exactly when it is good
good_says : (l : List ℕ) → Says (opens l) (GoodSheet l)
unfolding opens
good_says l =
    in_words (and_says (le_says _ _) (and_says (eq_says _ _) (and_says (range_says rule_limits _ _ _) (and_says (eq_says _ _) (eq_says _ _)))))
    (λ p. record { long = p.0; marked = p.1.0; is_in_range = p.1.1.0; distance = p.1.1.1.0; size = p.1.1.1.1 })
    (λ g. (g.long, (g.marked, (g.is_in_range, (g.distance, g.size)))))

-- and does not open exactly when it is bad
shut_fails : (l : List ℕ) → Fails (opens l) (BadSheet l)
unfolding opens
shut_fails l =
    Iff.trans
    (and_fails (le_fails _ _) (and_fails (eq_fails _ _) (and_fails (range_fails rule_limits _ _ _) (and_fails (eq_fails _ _) (eq_fails _ _))))) (
      ⊎_elim short (⊎_elim unmarked (⊎_elim out_of_range (⊎_elim wrong_distance wrong_length))),
      λ b. elim b [
        | short h ↦ inl h
        | unmarked h ↦ inr (inl h)
        | out_of_range h ↦ inr (inr (inl h))
        | wrong_distance h ↦ inr (inr (inr (inl h)))
        | wrong_length h ↦ inr (inr (inr (inr h)))
      ],
    )

-- a choice that came to a constructor tells its test
chose : {g h : Head} (t : Bool) → cond t (Ok g) (Err Sheet) ≡ Ok h → (t ≡ true) × (g ≡ h)
chose true e = (refl, cc)
chose false e = cc

chose_not : (g : Head) {x : Refusal} (t : Bool) → cond t (Ok g) (Err Sheet) ≡ Err x → (t ≡ false) × (Sheet ≡ x)
chose_not g true e = cc
chose_not g false e = (refl, cc)

pub shut_says : (l : List ℕ) → Says (not (opens l)) (BadSheet l)
shut_says l = fails_say (shut_fails l)

-- a refusal is given exactly when the sheet is bad, and it is 11
pub refused_when : (l : List ℕ) (x : Refusal) → (opened_of l ≡ Err x) ↔ (BadSheet l × (Sheet ≡ x))
unfolding opened_of
refused_when l x =
    (λ e. let t = chose_not (head_in l) (opens l) e in ((shut_fails l).0 t.0, t.1), λ b. rw ((shut_fails l).1 b.0, b.1))

-- it is opened exactly when the sheet is good, and its head is as its last bytes say
pub opened_when : (l : List ℕ) (h : Head) → (opened_of l ≡ Ok h) ↔ (GoodSheet l × (head_in l ≡ h))
unfolding opened_of
opened_when l h =
    (λ e. let t = chose (opens l) e in ((good_says l).0 t.0, t.1), λ g. rw ((good_says l).1 g.0, g.1))

-- what is known of a sheet that opened
pub record Sized (l : List ℕ) (h : Head) : Type 0 where
  pub is_in_range : InRange rule_limits h.states h.events h.initial.0
  pub size : length l ≡ h.states * h.events + 6

pub sized : {l : List ℕ} {h : Head} → Ok h ≡ opened_of l → Sized l h
sized {l} {h} e =
    let t = (opened_when l h).0 (sym e) in
    let g = t.0 in
    rw (← t.1) (record { is_in_range = g.is_in_range; size = g.size })

-- a cell's place is before the last six bytes
pub place_inside : (l : List ℕ) (h : Head) → Ok h ≡ opened_of l → (s : ℕ) → s < h.states → (e : ℕ) → e < h.events → place_of h.events s e < length l
place_inside l h o s state_in e event_in = omega (arith, digits_lt state_in event_in, (sized o).size)
