-- Which numbers a verdict gives; the conditions of a drawing give 5 to 9, each its own.
-- Assumes nothing.
use Prim.Native.Nat.{ℕ, zero, suc}
use mathlib.Core.Path.{◌≡◌, refl}
use mathlib.Core.Bool.{Bool, true}
use mathlib.Core.List.{List, [], ◌∷◌, ◌++◌}
use mathlib.Core.Logic.{◌⊎◌, inl, inr, ⊎_elim}
use lib.Dec.{leb}
use borrow.Author.Tests.{eq-eqb}
use Rattle.rule.specs.Sets.{names_past}
use Rattle.rule.specs.Drawing.{Drawing, state_no, event_no, states, count, initial, next, pair_at, joint}
use Rattle.rule.specs.Operations.{reach_of}
use Rattle.rule.specs.Stopping.{stops_by, stopping_joint}
use Rattle.rule.specs.Classes.{forbids_some}
use Rattle.rule.specs.Refusals.{told_of, among, Numbered, refuse_if, or_else, first_of, first_below, first_cell, entries, members, exceeds, excess}
use Rattle.rule.specs.Refusals.{moves, stopped_pairs, stopped_joint, stopped, conditions, conditions_order}
use Rattle.rule.specs.declared.Refusal.{Refusal}
use Rattle.rule.specs.declared.Refusal.TheVariants.{Entry, Member, Excess, Move, Stopping}
use Rattle.rule.proofs.BoolLaws.{Says, clash, chosen, eq_says, or_says, itself}
use Rattle.rule.proofs.RefusalLaws.{not_both, refuse_refused}
use Rattle.rule.specs.Verdict.{Verdict}
use Rattle.std.specs.Prelude.{Ok, Err}

-- of the numbers in a list, and in two in a row
pub among_says : (n m : ℕ) (l : List ℕ) → Says (among n (m ∷ l)) ((n ≡ m) ⊎ (among n l ≡ true))
among_says n m l = or_says (eq_says n m) (itself (among n l))

pub first_among : (n : ℕ) (l : List ℕ) → among n (n ∷ l) ≡ true
first_among n l = (among_says n n l).1 (inl refl)

pub among_either : (n : ℕ) (l m : List ℕ) → among n (l ++ m) ≡ true → (among n l ≡ true) ⊎ (among n m ≡ true)
among_either n [] m p = inr p
among_either n (k ∷ l) m p =
    ⊎_elim (λ e. inl ((among_says n k l).1 (inl e))) (λ q. ⊎_elim (λ r. inl ((among_says n k l).1 (inr r))) inr (among_either n l m q))
    ((among_says n k (l ++ m)).0 p)

pub among_ahead : (n : ℕ) (l m : List ℕ) → among n l ≡ true → among n (l ++ m) ≡ true
among_ahead n (k ∷ l) m p =
    (among_says n k (l ++ m)).1 (⊎_elim inl (λ q. inr (among_ahead n l m q)) ((among_says n k l).0 p))
among_ahead n [] m p = clash p refl

pub among_last : (n : ℕ) (l : List ℕ) → among n (l ++ (n ∷ [])) ≡ true
among_last n [] = first_among n []
among_last n (k ∷ l) = (among_says n k (l ++ (n ∷ []))).1 (inr (among_last n l))

-- whatever the verdict refuses has one of these numbers
abbrev pub Gives : List ℕ → Verdict → Type 0
Gives numbers v = (r : Refusal) → v ≡ Err r → Numbered numbers r

pub sound_gives : {l : List ℕ} → Gives l (Ok tt)
sound_gives r p = not_both refl p

pub refuse_gives : {l : List ℕ} (b : Bool) (r : Refusal) → Numbered l r → Gives l (refuse_if b r)
refuse_gives {l} b r n s p = let e = ((refuse_refused b r s).0 p).1 in rw e at n

-- a condition that gives one number
pub test_gives : {n : ℕ} (b : Bool) (r : Refusal) → (told_of r).number ≡ n → Gives (n ∷ []) (refuse_if b r)
test_gives {n} b r e = refuse_gives b r (record { one_of = rw (eq-eqb (told_of r).number n e) })

pub else_gives : {l : List ℕ} (v w : Verdict) → Gives l v → Gives l w → Gives l (or_else v w)
else_gives (Ok _) w g h = h
else_gives (Err r) w g h = g

pub below_gives : {l : List ℕ} (f : ℕ → Verdict) (n : ℕ) → ((i : ℕ) → Gives l (f i)) → Gives l (first_below f n)
unfolding first_below
below_gives f zero g = sound_gives
below_gives f (suc n) g = else_gives (first_below f n) (f n) (below_gives f n g) (g n)

pub cell_gives : {l : List ℕ} (f : ℕ → ℕ → Verdict) (n k : ℕ) → ((s e : ℕ) → Gives l (f s e)) → Gives l (first_cell f n k)
unfolding first_cell
cell_gives f n k g = below_gives (λ s. first_below (f s) k) n (λ s. below_gives (f s) k (g s))

-- each verdict of a list gives its own number
pub data Each : List ℕ → List Verdict → Type 0 where
  end : Each [] []
  and : {n : ℕ} {v : Verdict} {l : List ℕ} {vs : List Verdict} → Gives (n ∷ []) v → Each l vs → Each (n ∷ l) (v ∷ vs)

-- and the first gives one of them
pub first_gives : {l : List ℕ} {vs : List Verdict} → Each l vs → Gives l (first_of vs)
unfolding first_of
first_gives end = sound_gives
first_gives (and {n = n} {v = v} {l = l} {vs = vs} g e) =
    else_gives v (first_of vs)
    (λ r p. record { one_of = among_ahead _ (n ∷ []) l (g r p).one_of })
    (λ r p. record { one_of = (among_says _ n l).1 (inr (first_gives e r p).one_of) })

module _ (d : Drawing) where
  pub entries_give : Gives (5 ∷ []) (entries d)
  unfolding entries
  entries_give = cell_gives _ _ _ (λ s e. test_gives (leb (states d) (next d s e)) (Entry (state_no s) (event_no e)) refl)

  pub members_give : Gives (6 ∷ []) (members d)
  unfolding members
  members_give = below_gives _ _ (λ i. else_gives _ _
      (test_gives (names_past (states d) (pair_at d i).r) (Member i 0) refl)
      (test_gives (names_past (states d) (pair_at d i).p) (Member i 1) refl))

  pub excess_gives : Gives (7 ∷ []) (excess d)
  unfolding excess
  excess_gives = test_gives (exceeds d) Excess refl

  pub moves_give : Gives (8 ∷ []) (moves d)
  unfolding moves
  moves_give = cell_gives _ _ _ (λ s e. test_gives (forbids_some d.shape.class d.pairs s (next d s e)) (Move (state_no s) (event_no e)) refl)

  pairs_give : Gives (9 ∷ []) (stopped_pairs d)
  unfolding stopped_pairs
  pairs_give = below_gives _ _ (λ i. test_gives (stops_by (pair_at d i) (reach_of d (initial d)) (initial d)) (Stopping i) refl)

  pub stopped_gives : Gives (9 ∷ []) (stopped d)
  unfolding stopped stopped_joint
  stopped_gives =
      chosen (Gives (9 ∷ [])) (joint d)
      (λ j. chosen (Gives (9 ∷ [])) (stopping_joint d (initial d))
      (λ t. else_gives (stopped_pairs d) _ pairs_give (test_gives true (Stopping (count d)) refl))
      (λ o. sound_gives))
      (λ n. pairs_give)

  -- together they give 5 to 9
  pub conditions_give : Each conditions_order (conditions d)
  conditions_give = and entries_give (and members_give (and excess_gives (and moves_give (and stopped_gives end))))
