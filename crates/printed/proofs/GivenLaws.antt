-- Printing: 16 is given exactly when the text does not fit, and nothing else ever; an output of 32,768 bytes is always enough.
-- Assumes nothing.
use Prim.Native.Nat.{ℕ, ◌≤◌}
use native.Mathlib.Omega.{arith}
use native.Mathlib.Decide.{dec_le}
use mathlib.Core.Path.{◌≡◌, refl}
use mathlib.Core.Logic.{◌↔◌}
use mathlib.Core.List.{List}
use lib.ListN.{length}
use Rattle.rule.specs.Given.{NoRow, Given, row, last, Ends}
use Rattle.rule.specs.declared.Refusal.{Refusal}
use Rattle.rule.specs.Putting.{written_told}
use Rattle.rule.proofs.PutLaws.{only_room_gives, only_room_does, only_room_ends}
use Rattle.printed.specs.Printing.{text_max, text_of, PrintPromise, Printing, printing_order}
use Rattle.printed.proofs.PrintLaws.{text_short}
use Rattle.rule.specs.Verdict.{Written}
use Rattle.std.specs.Prelude.{Ok, Err}

module _ (f : List ℕ) {out : List ℕ} {w : Written} {out' : List ℕ} (kept : PrintPromise f out w out') where
  pub print_gives : (x : Refusal) → (w ≡ Err x) ↔ Given (Printing f (length out)) x printing_order
  print_gives = only_room_gives kept

  pub print_done : (n : ℕ) → (w ≡ Ok n) ↔ (NoRow (Printing f (length out)) × (n ≡ length (text_of f)))
  print_done = only_room_does kept

  -- how printing ends: a refused call leaves the output as it was
  pub print_ends : Ends (Printing f (length out)) printing_order (written_told w) (out' ≡ out)
  print_ends = only_room_ends kept

  -- what was put lies within the output
  pub done_fits : {n : ℕ} → w ≡ Ok n → n ≤ length out
  done_fits {n} e =
      let d = (print_done n).0 e in
      elim (dec_le n (length out)) [
        | yes h ↦ h
        | no h ↦ absurd (d.0 16 _ (last (omega (arith, d.1))))
      ]

  -- 32,768 bytes are always enough
  pub print_enough : text_max ≤ length out → w ≡ Ok (length (text_of f))
  print_enough h = (print_done (length (text_of f))).1 (none, refl)
    where
      none : NoRow (Printing f (length out))
      none n x (row r) = elim r [ ]
      none n x (last a) = absurd (omega (arith, text_short f))
