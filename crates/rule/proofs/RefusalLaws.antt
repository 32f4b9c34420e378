-- Laws of the first refusal: of two verdicts, of a list, of the numbers below n, of the cells in row order.
-- The forms `-none`, `-more`, `-hit` and `-end` are the steps of a loop that stops at the first refusal. Assumes nothing.
use Prim.Native.Nat.{ℕ, zero, suc, ◌+◌, ◌≤◌, ◌<◌}
use native.Mathlib.Omega.{arith}
use native.Mathlib.Numerals.{add-one}
use mathlib.Core.Path.{◌≡◌, refl, ap, ◌∙◌}
use mathlib.Core.Bool.{Bool, true, false}
use mathlib.Core.List.{List, [], ◌∷◌, ◌++◌}
use mathlib.Core.Logic.{◌↔◌}
use Rattle.rule.specs.Refusals.{refuse_if, or_else, first_of, first_below, first_cell}
use Rattle.rule.specs.Given.{FirstBelow, FirstRefused}
use Rattle.rule.specs.declared.Refusal.{Refusal}
use Rattle.rule.proofs.SetLaws.{below_or}
use Rattle.rule.specs.Verdict.{Verdict}
use Rattle.std.specs.Prelude.{Ok, Err}

-- no verdict is both sound and refused
pub not_both : {A : Type 0} {v : Verdict} {r : Refusal} → v ≡ Ok tt → v ≡ Err r → A
not_both p q = absurd (let z : ◌≡◌ {A = ℕ} 0 1 = cc in omega arith)

-- a verdict that is not refused is sound
pub sound_or : {A : Type 0} (v : Verdict) → (v ≡ Ok tt → A) → ((r : Refusal) → v ≡ Err r → A) → A
sound_or (Ok _) f g = f refl
sound_or (Err r) f g = g r refl

-- the verdict on a condition

pub refuse_sound : (b : Bool) (r : Refusal) → (refuse_if b r ≡ Ok tt) ↔ (b ≡ false)
refuse_sound b r = (to b, λ p. rw p)
  where
    to : (b : Bool) → refuse_if b r ≡ Ok tt → b ≡ false
    to true p = not_both p refl
    to false p = refl

pub refuse_refused : (b : Bool) (r s : Refusal) → (refuse_if b r ≡ Err s) ↔ ((b ≡ true) × (r ≡ s))
refuse_refused b r s = (to b, λ p. rw (p.0, p.1))
  where
    to : (b : Bool) → refuse_if b r ≡ Err s → (b ≡ true) × (r ≡ s)
    to true p = (refl, cc)
    to false p = not_both refl p

-- the first of two verdicts

pub else_sound : (v w : Verdict) → (or_else v w ≡ Ok tt) ↔ ((v ≡ Ok tt) × (w ≡ Ok tt))
else_sound v w = (to v, λ p. rw (p.0, p.1))
  where
    to : (v : Verdict) → or_else v w ≡ Ok tt → (v ≡ Ok tt) × (w ≡ Ok tt)
    to (Ok _) p = (refl, p)
    to (Err r) p = not_both p refl

-- the first of a list of verdicts

pub first_hit : (v : Verdict) (vs : List Verdict) (r : Refusal) → v ≡ Err r → first_of (v ∷ vs) ≡ Err r
unfolding first_of
first_hit v vs r p = rw p

pub first_more : (v : Verdict) (vs : List Verdict) → v ≡ Ok tt → first_of (v ∷ vs) ≡ first_of vs
unfolding first_of
first_more v vs p = rw p

pub first_none : first_of [] ≡ Ok tt
unfolding first_of
first_none = refl

-- of one verdict the first is that verdict
pub first_one : (v : Verdict) → first_of (v ∷ []) ≡ v
unfolding first_of
first_one (Ok _) = refl
first_one (Err r) = refl

-- the first of two lists in a row is the first of the first list, or where that is sound the first of the second
pub first_append : (vs ws : List Verdict) → first_of (vs ++ ws) ≡ or_else (first_of vs) (first_of ws)
unfolding first_of
first_append [] ws = refl
first_append ((Ok _) ∷ vs) ws = first_append vs ws
first_append (Err r ∷ vs) ws = refl

pub append_more : (vs ws : List Verdict) → first_of vs ≡ Ok tt → first_of (vs ++ ws) ≡ first_of ws
append_more vs ws p = first_append vs ws ∙ ap (λ v. or_else v (first_of ws)) p

pub append_hit : (vs ws : List Verdict) (r : Refusal) → first_of vs ≡ Err r → first_of (vs ++ ws) ≡ Err r
append_hit vs ws r p = first_append vs ws ∙ ap (λ v. or_else v (first_of ws)) p

pub first_sound : (v : Verdict) (vs : List Verdict) → (first_of (v ∷ vs) ≡ Ok tt) ↔ ((v ≡ Ok tt) × (first_of vs ≡ Ok tt))
unfolding first_of
first_sound v vs = else_sound v (first_of vs)

-- the first below n

module _ (f : ℕ → Verdict) where
  pub below_none : first_below f 0 ≡ Ok tt
  unfolding first_below
  below_none = refl

  pub below_more : (i : ℕ) → first_below f i ≡ Ok tt → f i ≡ Ok tt → first_below f (i + 1) ≡ Ok tt
  unfolding first_below
  below_more i none here = rw (add-one, none, here)

  pub below_hit : (i : ℕ) (r : Refusal) → first_below f i ≡ Ok tt → f i ≡ Err r → (n : ℕ) → i < n → first_below f n ≡ Err r
  unfolding first_below
  below_hit i r none here zero h = absurd (omega arith)
  below_hit i r none here (suc n) h = below_or i n
      (λ b. rw (below_hit i r none here n b))
      (λ b. let q : n ≡ i = omega arith in rw (q, none, here))

  pub below_end : (i n : ℕ) → first_below f i ≡ Ok tt → i ≤ n → n ≤ i → first_below f n ≡ Ok tt
  below_end i n none le ge = let q : i ≡ n = omega arith in rw q at none

  pub below_sound : (n : ℕ) → first_below f n ≡ Ok tt → (i : ℕ) → i < n → f i ≡ Ok tt
  unfolding first_below
  below_sound zero p i h = absurd (omega arith)
  below_sound (suc n) p i h =
      let both = (else_sound (first_below f n) (f n)).0 p in
      below_or i n (below_sound n both.0 i) (λ b. let q : i ≡ n = omega arith in rw q both.1)

  pub sound_below : (n : ℕ) → ((i : ℕ) → i < n → f i ≡ Ok tt) → first_below f n ≡ Ok tt
  unfolding first_below
  sound_below zero all = refl
  sound_below (suc n) all = rw (sound_below n (λ i h. all i (omega arith)), all n (omega arith))

  -- sound exactly when all below n are sound
  pub below_sound_iff : (n : ℕ) → (first_below f n ≡ Ok tt) ↔ ((i : ℕ) → i < n → f i ≡ Ok tt)
  below_sound_iff n = (below_sound n, sound_below n)

  below_refused : (n : ℕ) (r : Refusal) → first_below f n ≡ Err r → FirstBelow f n r
  unfolding first_below
  below_refused zero r p = not_both refl p
  below_refused (suc n) r p = sound_or (first_below f n)
      (λ none. record { at = n; below = omega arith; refused = rw none at p; earlier = below_sound n none })
      (λ r' hit.
      let q : first_below f n ≡ Err r = hit ∙ rw hit at p in
      let g = below_refused n r q in
      record { at = g.at; below = omega arith; refused = g.refused; earlier = g.earlier })

  -- refused with r exactly when one below n is, and all earlier ones are sound
  pub below_refused_iff : (n : ℕ) (r : Refusal) → (first_below f n ≡ Err r) ↔ FirstBelow f n r
  below_refused_iff n r =
      (below_refused n r, λ g. below_hit g.at r (sound_below g.at g.earlier) g.refused n g.below)

-- the first cell in row order

module _ (f : ℕ → ℕ → Verdict) (k : ℕ) where
  pub cells_none : first_cell f 0 k ≡ Ok tt
  unfolding first_cell
  cells_none = below_none (λ s. first_below (f s) k)

  -- one more row
  pub cells_more : (s e : ℕ) → first_cell f s k ≡ Ok tt → first_below (f s) e ≡ Ok tt → e ≤ k → k ≤ e → first_cell f (s + 1) k ≡ Ok tt
  unfolding first_cell
  cells_more s e none row le ge = below_more (λ s. first_below (f s) k) s none (below_end (f s) e k row le ge)

  pub cells_hit : (s e : ℕ) (r : Refusal) → first_cell f s k ≡ Ok tt → first_below (f s) e ≡ Ok tt → f s e ≡ Err r
      → (n : ℕ) → s < n → e < k → first_cell f n k ≡ Err r
  unfolding first_cell
  cells_hit s e r none row here n hs he = below_hit (λ s. first_below (f s) k) s r none (below_hit (f s) e r row here k he) n hs

  pub cells_end : (s n : ℕ) → first_cell f s k ≡ Ok tt → s ≤ n → n ≤ s → first_cell f n k ≡ Ok tt
  unfolding first_cell
  cells_end s n none le ge = below_end (λ s. first_below (f s) k) s n none le ge

  -- sound exactly when all cells are sound
  pub cells_sound_iff : (n : ℕ) → (first_cell f n k ≡ Ok tt) ↔ ((s e : ℕ) → s < n → e < k → f s e ≡ Ok tt)
  unfolding first_cell
  cells_sound_iff n = (
    λ p s e hs he. below_sound (f s) k (below_sound (λ s. first_below (f s) k) n p s hs) e he,
    λ all. sound_below (λ s. first_below (f s) k) n (λ s hs. sound_below (f s) k (λ e he. all s e hs he)),
  )

  cells_refused : (n : ℕ) (r : Refusal) → first_cell f n k ≡ Err r → FirstRefused f n k r
  unfolding first_cell
  cells_refused n r p =
      let row = (below_refused_iff (λ s. first_below (f s) k) n r).0 p in
      let cell = (below_refused_iff (f row.at) k r).0 row.refused in
      record {
        state = row.at;
        event = cell.at;
        state_in = row.below;
        event_in = cell.below;
        refused = cell.refused;
        rows_before = λ s e hs he. below_sound (f s) k (row.earlier s hs) e he;
        cells_before = cell.earlier;
      }

  -- refused with r exactly when one cell is, and all earlier ones in row order are sound
  pub cells_refused_iff : (n : ℕ) (r : Refusal) → (first_cell f n k ≡ Err r) ↔ FirstRefused f n k r
  cells_refused_iff n r = (
    cells_refused n r,
    λ g. cells_hit g.state g.event r
        ((cells_sound_iff g.state).1 g.rows_before)
        (sound_below (f g.state) g.event g.cells_before)
        g.refused n g.state_in g.event_in,
  )
