-- Asking why: each refusal is given exactly when its row of the paper's table holds and no earlier one does, and there is an answer exactly when no row
-- holds; a refused call leaves the output as it was.
-- Assumes nothing.
use Prim.Native.Nat.{ℕ, ◌≤◌}
use native.Mathlib.Omega.{arith}
use mathlib.Core.Path.{◌≡◌, refl}
use mathlib.Core.Bool.{true}
use mathlib.Core.List.{List, [], ◌∷◌}
use mathlib.Core.Logic.Iff
use mathlib.Core.Logic.{◌↔◌}
use lib.ListN.{length}
use Rattle.rule.specs.Drawing.{states, events}
use Rattle.rule.specs.Given.{Given, Ends}
use Rattle.rule.specs.Putting.{written_told}
use Rattle.rule.specs.Refusals.{among, first_of}
use Rattle.rule.specs.declared.Operation.{Operation}
use Rattle.rule.specs.declared.Operation.TheVariants.{Halt, Store, Dump}
use Rattle.rule.specs.declared.Refusal.{Refusal}
use Rattle.rule.specs.declared.Refusal.TheVariants.{Run, Code}
use Rattle.rule.proofs.BoolLaws.{clash, le_says}
use Rattle.rule.proofs.NumberLaws.{among_ahead}
use Rattle.rule.proofs.PutLaws.{put_gives, put_ends}
use Rattle.rule.proofs.TableLaws.{Within, Answers, decided, append, then, as_rows, end}
use Rattle.rulefile.specs.Given.{Reading, reading_order}
use Rattle.rulefile.specs.Layout.{drawing_in}
use Rattle.rulefile.specs.Reading.{verdict_on}
use Rattle.rulefile.proofs.GivenLaws.{file_within, file_answers}
use Rattle.why.specs.Given.{WhyRow, file, at_12, at_13, state_order, why_order, Asking}
use Rattle.why.specs.Why.{why_verdict, ground_by, WhyPromise, ground_told}
use Rattle.why.specs.declared.Ground.{Ground}
use Rattle.rule.specs.Verdict.{Written}
use Rattle.std.specs.Prelude.{Ok, Err, Result}

module _ (f : List ℕ) (s e : ℕ) where
  pub why_within : Within state_order (WhyRow f s e)
  why_within n x (file r) = let w = file_within f n x r in record { number = w.number; listed = among_ahead n reading_order (12 ∷ 13 ∷ []) w.listed }
  why_within n x (at_12 h) = record { number = refl; listed = refl }
  why_within n x (at_13 h) = record { number = refl; listed = refl }

  pub why_answers : Answers (WhyRow f s e) state_order (why_verdict f s e)
  unfolding why_verdict first_of
  why_answers =
      append (verdict_on f) (as_rows (λ n x q. (file, rest n x q)) (file_answers f)) (λ _.
      then _ (decided (WhyRow f s e) 12 (le_says (states (drawing_in f)) s) at_12 says_12) (λ _.
      then _ (decided (WhyRow f s e) 13 (le_says (events (drawing_in f)) e) at_13 says_13) (λ _. end)))
    where
      rest : (n : ℕ) (x : Refusal) → among n reading_order ≡ true → WhyRow f s e n x → Reading f n x
      rest n x q (file r) = r
      rest n x q (at_12 h) = clash q refl
      rest n x q (at_13 h) = clash q refl

      says_12 : (y : Refusal) → WhyRow f s e 12 y → (Run ≡ y) × (states (drawing_in f) ≤ s)
      says_12 y (file r) = clash (file_within f _ _ r).listed refl
      says_12 y (at_12 h) = (refl, h)

      says_13 : (y : Refusal) → WhyRow f s e 13 y → (Code ≡ y) × (events (drawing_in f) ≤ e)
      says_13 y (file r) = clash (file_within f _ _ r).listed refl
      says_13 y (at_13 h) = (refl, h)

-- the answer tells what putting the way tells
told_as : (w : Written) (o : Operation) (lost wanted : ℕ) → ground_told (ground_by w o lost wanted) ≡ written_told w
told_as (Err r) o lost wanted = refl
told_as (Ok n) Halt lost wanted = refl
told_as (Ok n) Store lost wanted = refl
told_as (Ok n) Dump lost wanted = refl

-- and is refused where that is
pub refused_as : (w : Written) (o : Operation) (lost wanted : ℕ) (x : Refusal) → (ground_by w o lost wanted ≡ Err x) ↔ (w ≡ Err x)
refused_as (Err r) o lost wanted x = (λ p. cc, λ p. cc)
refused_as (Ok n) Halt lost wanted x = (λ p. absurd (let z : ◌≡◌ {A = ℕ} 0 1 = cc in omega arith), λ p. absurd (let z : ◌≡◌ {A = ℕ} 0 1 = cc in omega arith))
refused_as (Ok n) Store lost wanted x = (λ p. absurd (let z : ◌≡◌ {A = ℕ} 0 1 = cc in omega arith), λ p. absurd (let z : ◌≡◌ {A = ℕ} 0 1 = cc in omega arith))
refused_as (Ok n) Dump lost wanted x = (λ p. absurd (let z : ◌≡◌ {A = ℕ} 0 1 = cc in omega arith), λ p. absurd (let z : ◌≡◌ {A = ℕ} 0 1 = cc in omega arith))

module _ {f : List ℕ} {s e : ℕ} {out : List ℕ} {g : Result Ground Refusal} {out' : List ℕ} (kept : WhyPromise f s e out g out') where
  pub why_gives : (x : Refusal) → (g ≡ Err x) ↔ Given (Asking f s e (length out)) x why_order
  why_gives x = rw kept.answer (Iff.trans (refused_as kept.written _ _ _ x) (put_gives (why_within f s e) refl (why_answers f s e) kept.put x))

  -- how asking ends
  pub why_ends : Ends (Asking f s e (length out)) why_order (ground_told g) (out' ≡ out)
  why_ends = rw (kept.answer, told_as kept.written _ _ _) (put_ends (why_within f s e) refl (why_answers f s e) kept.put)
