-- Laws of the whole monitor: what it is by the two sets of states.
-- Assumes nothing.
use Prim.Native.Nat.{ℕ, zero, suc, ◌<◌}
use mathlib.Core.Path.{◌≡◌, refl, sym, ap, ◌∙◌}
use mathlib.Core.Bool.{Bool, true, false}
use mathlib.Core.Logic.{◌↔◌}
use mathlib.Core.List.{◌++◌}
use native.Mathlib.Omega.{arith}
use Rattle.rule.specs.Drawing.{Drawing, states, events, next}
use Rattle.rule.specs.Operations.{operation_at}
use Rattle.rule.specs.Stopping.{stopping}
use Rattle.rule.specs.WellDrawn.{WellDrawn}
use Rattle.rule.specs.declared.Operation.{Operation}
use Rattle.rule.specs.declared.Operation.TheVariants.{Halt, Store, Dump}
use Rattle.operations.specs.Marks.{operation_in, marks_of}
use Rattle.operations.specs.declared.Marks.{Marks}
use Rattle.operations.proofs.MarkLaws.{marks_at}
use Rattle.rule.proofs.OperationLaws.{operation_halt}
use Rattle.rulefile.proofs.ListLaws.{flat_ext}
use Rattle.printed.specs.Printing.{header, cell_line, cell_of, row_lines, cell_lines, those_below, stop_line, monitor_text}
use Rattle.printed.specs.Writers.{halts, halts_into}

halts_is : (o : Operation) (b : Bool) → (o ≡ Halt) ↔ (b ≡ true) → halts o ≡ b
halts_is Halt b e = sym (e.0 refl)
halts_is Store false e = refl
halts_is Store true e = absurd (let z : ◌≡◌ {A = ℕ} 0 1 = cc (e.1 refl) in omega arith)
halts_is Dump false e = refl
halts_is Dump true e = absurd (let z : ◌≡◌ {A = ℕ} 0 1 = cc (e.1 refl) in omega arith)

those_same : (a b : ℕ → Bool) (n : ℕ) → ((q : ℕ) → q < n → a q ≡ b q) → those_below a n ≡ those_below b n
unfolding those_below
those_same a b zero h = refl
those_same a b (suc n) h = rw (those_same a b n (λ q l. h q (omega arith)), h n (omega arith))

module _ {d : Drawing} (well : WellDrawn d) {l : Marks} (is : l ≡ marks_of d) where
  operation_at_is : (q : ℕ) → q < states d → operation_in l q ≡ operation_at d q
  operation_at_is q h = rw is (marks_at d well q h)

  -- a state is stopping exactly where a move into it halts
  stops_at : (q : ℕ) → q < states d → halts_into l q ≡ stopping d q
  unfolding halts_into
  stops_at q h = ap halts (operation_at_is q h) ∙ halts_is (operation_at d q) (stopping d q) (operation_halt d well q h)

  cells_same : cell_lines (next d) (operation_in l) (events d) (states d) ≡ cell_lines (next d) (operation_at d) (events d) (states d)
  unfolding cell_lines row_lines cell_of
  cells_same =
      flat_ext _ _ (states d) (λ s a. flat_ext _ _ (events d) (λ e b.
      ap (cell_line s e (next d s e)) (operation_at_is (next d s e) (well.closed s e a b))))

  pub monitor_is : header d.shape ++ (cell_lines (next d) (operation_in l) (events d) (states d) ++ stop_line (halts_into l) (states d)) ≡ monitor_text d
  unfolding monitor_text stop_line
  monitor_is = rw (cells_same, those_same (halts_into l) (stopping d) (states d) stops_at)
