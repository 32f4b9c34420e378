-- Making a sheet: each refusal is given exactly when its row of the paper's table holds and no earlier one does, and a sheet is made exactly when no row holds.
-- Assumes nothing.
use Prim.Native.Nat.{ℕ}
use mathlib.Core.Path.{◌≡◌, refl}
use mathlib.Core.Logic.{◌↔◌}
use mathlib.Core.List.{List}
use lib.ListN.{length}
use Rattle.rule.specs.Given.{NoRow, Given, Ends}
use Rattle.rule.specs.declared.Refusal.{Refusal}
use Rattle.rulefile.specs.Layout.{drawing_in}
use Rattle.rule.proofs.PutLaws.{put_gives, put_does, put_ends}
use Rattle.rulefile.proofs.GivenLaws.{file_within, file_answers}
use Rattle.making.specs.Given.{making_order, Making}
use Rattle.sheet.specs.Layout.{sheet_of}
use Rattle.making.specs.Making.{MakePromise}
use Rattle.rule.specs.Putting.{written_told}
use Rattle.rule.specs.Verdict.{Written}
use Rattle.std.specs.Prelude.{Ok, Err}

module _ {f out : List ℕ} {w : Written} {out' : List ℕ} (kept : MakePromise f out w out') where
  pub make_gives : (x : Refusal) → (w ≡ Err x) ↔ Given (Making f (length out)) x making_order
  make_gives = put_gives (file_within f) refl (file_answers f) kept

  pub make_done : (n : ℕ) → (w ≡ Ok n) ↔ (NoRow (Making f (length out)) × (n ≡ length (sheet_of (drawing_in f))))
  make_done = put_does (file_within f) refl (file_answers f) kept

  -- how making ends: a refused call leaves the output as it was
  pub make_ends : Ends (Making f (length out)) making_order (written_told w) (out' ≡ out)
  make_ends = put_ends (file_within f) refl (file_answers f) kept
