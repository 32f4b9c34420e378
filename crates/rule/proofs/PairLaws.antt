-- A test over the pairs of a list, as a fact about one of them or about each. Assumes nothing.
use Prim.Native.Nat.{ℕ, zero, suc, ◌<◌}
use native.Mathlib.Omega.{arith}
use mathlib.Core.Path.{◌≡◌, refl, sym, ◌∙◌}
use mathlib.Core.Bool.{Bool, true, false, ◌||◌}
use mathlib.Core.List.{List, [], ◌∷◌}
use mathlib.Core.Logic.{◌⊎◌, inl, inr, ⊎_elim}
use lib.ListN.{length, get_or}
use Rattle.rule.specs.Drawing.{no_pair}
use Rattle.rule.specs.Acceptance.{meets_pair, meets_all}
use Rattle.rule.specs.declared.Pair.{Pair}
use Rattle.rule.proofs.BoolLaws.{clash, Says, itself, and_says, or_says}

-- a pair of the list with the property
abbrev pub Some : (Pair → Type 0) → List Pair → Type 0
Some Q ps = (i : ℕ) × (i < length ps) × Q (get_or ps i no_pair)

module _ (Q : Pair → Type 0) where
  pub some_first : (p : Pair) (ps : List Pair) → Q p → Some Q (p ∷ ps)
  some_first p ps q = (0, omega arith, q)

  pub some_later : (p : Pair) (ps : List Pair) → Some Q ps → Some Q (p ∷ ps)
  some_later p ps g = (suc g.0, omega (arith, g.1), g.2)

  pub some_cases : (p : Pair) (ps : List Pair) → Some Q (p ∷ ps) → Q p ⊎ Some Q ps
  some_cases p ps g = by g.0 g.1 g.2
    where
      by : (i : ℕ) → i < suc (length ps) → Q (get_or (p ∷ ps) i no_pair) → Q p ⊎ Some Q ps
      by zero h q = inl q
      by (suc i) h q = inr (i, omega arith, q)

-- a test that holds where it holds of one pair
module _ (some : List Pair → Bool) (one : Pair → Bool) (none : some [] ≡ false) (more : (p : Pair) (ps : List Pair) → some (p ∷ ps) ≡ one p || some ps)
    (Q : Pair → Type 0) (says : (p : Pair) → Says (one p) (Q p)) where
  pub some_says : (ps : List Pair) → Says (some ps) (Some Q ps)
  some_says [] = (λ p. clash p none, λ g. absurd (omega (arith, g.1)))
  some_says (p ∷ ps) =
      let g = or_says (says p) (some_says ps) in (
        λ h. ⊎_elim (some_first Q p ps) (some_later Q p ps) (g.0 (sym (more p ps) ∙ h)),
        λ h. more p ps ∙ g.1 (some_cases Q p ps h),
      )

-- t lies in R or P of every pair when it does of each
pub says_meets_all : (ps : List Pair) (t : ℕ) → Says (meets_all ps t) ((i : ℕ) → i < length ps → meets_pair (get_or ps i no_pair) t ≡ true)
unfolding meets_all
says_meets_all [] t = (λ h i k. absurd (omega arith), λ f. refl)
says_meets_all (p ∷ ps) t =
    let both = and_says (itself (meets_pair p t)) (says_meets_all ps t) in
    (λ h. each (both.0 h), λ f. both.1 (f 0 (omega arith), λ i k. f (suc i) (omega arith)))
  where
    each : (meets_pair p t ≡ true) × ((i : ℕ) → i < length ps → meets_pair (get_or ps i no_pair) t ≡ true)
        → (i : ℕ) → i < suc (length ps) → meets_pair (get_or (p ∷ ps) i no_pair) t ≡ true
    each g zero k = g.0
    each g (suc i) k = g.1 i (omega arith)
