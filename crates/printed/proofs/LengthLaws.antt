-- A text is 32,768 bytes at most.
-- Assumes nothing.
use Prim.Native.Nat.{ℕ, zero, suc, ◌+◌, ◌*◌, ◌≤◌, ◌<◌}
use mathlib.Core.Bool.{Bool, true, false, cond}
use mathlib.Core.List.{List, [], ◌∷◌}
use native.Mathlib.Decide.{dec_lt, ℕ_discrete}
use native.Mathlib.Nat.{mul-le-mul}
use native.Mathlib.Omega.{arith}
use lib.ListN.{length, length-append}
use Rattle.rule.specs.Drawing.{Drawing, states, events, next}
use Rattle.rule.specs.Operations.{operation_at}
use Rattle.rule.specs.Stopping.{stopping}
use Rattle.rule.specs.WellDrawn.{WellDrawn}
use Rattle.rule.specs.declared.Operation.{Operation}
use Rattle.rule.specs.declared.Operation.TheVariants.{Halt, Store, Dump}
use Rattle.rule.specs.declared.Shape.{Shape}
use Rattle.rule.specs.declared.Told.{Told}
use Rattle.rulefile.specs.Layout.{flat_up_to}
use Rattle.printed.specs.Text.{decimal, rest, line}
use Rattle.printed.specs.Printing.{operation_word, header, refusal_line, cell_line, cell_of, row_lines, cell_lines, stop_line, monitor_text, text_max}
use Rattle.printed.specs.Writers.{stop_at}
use Rattle.printed.proofs.TextLaws.{decimal_one, decimal_two, decimal_three}
use Rattle.printed.proofs.StopLaws.{stops, stop_none, stop_some}

-- a number has three digits at most, and one below 100 has two at most
decimal_most : (n : ℕ) → (length (decimal n) ≤ 3) × (n < 100 → length (decimal n) ≤ 2)
decimal_most n =
    elim (dec_lt n 10) [
      | yes h ↦ rw (decimal_one n h) (omega arith, λ _. omega arith)
      | no l ↦ elim (dec_lt n 100) [
        | yes h ↦ rw (decimal_two n (omega arith) h) (omega arith, λ _. omega arith)
        | no m ↦ rw (decimal_three n (omega arith)) (omega arith, λ l. absurd (omega arith))
      ]
    ]

word_short : (o : Operation) → length (operation_word o) ≤ 5
word_short Halt = omega arith
word_short Store = omega arith
word_short Dump = omega arith

header_short : (s : Shape) → length (header s) ≤ 25
unfolding header line rest
header_short s =
    simp length-append
    (omega (arith, decimal_most s.class, decimal_most s.states, decimal_most s.events, decimal_most s.pairs, decimal_most s.initial.0))

pub refusal_short : (t : Told) → length (refusal_line t) ≤ 20
unfolding refusal_line line rest
refusal_short t = simp length-append (omega (arith, decimal_most t.number, decimal_most t.a, decimal_most t.b))

-- with state, event and next state below 100
cell_short : (s e t : ℕ) (o : Operation) → s < 100 → e < 100 → t < 100 → length (cell_line s e t o) ≤ 15
unfolding cell_line line rest
cell_short s e t o a b c =
    simp length-append (omega (arith, (decimal_most s).1 a, (decimal_most e).1 b, (decimal_most t).1 c, word_short o))

-- lists one after the other, where each is b bytes at most
flat_short : (f : ℕ → List ℕ) (b n : ℕ) → ((i : ℕ) → i < n → length (f i) ≤ b) → length (flat_up_to f n) ≤ n * b
unfolding flat_up_to
flat_short f b zero h = omega arith
flat_short f b (suc n) h = rw length-append (omega (arith, h n (omega arith), flat_short f b n (λ i g. h i (omega arith))))

stop_short : (has : ℕ → Bool) (q : ℕ) → length (stop_at has q) ≤ 4
unfolding stop_at
stop_short has q = by (has q)
  where
    by : (b : Bool) → length (cond b (32 ∷ decimal q) []) ≤ 4
    by true = omega (arith, decimal_most q)
    by false = omega arith

stops_short : (has : ℕ → Bool) (n : ℕ) → length (stop_line has n) ≤ 7 + n * 4
stops_short has n =
    let most = flat_short (stop_at has) 4 n (λ q h. stop_short has q) in
    elim (ℕ_discrete (length (stops has n)) 0) [
      | yes z ↦ rw (stop_none has n z) (simp length-append (omega arith))
      | no d ↦ rw (stop_some has n (omega arith)) (simp length-append (omega arith))
    ]

module _ (d : Drawing) (well : WellDrawn d) (few : events d ≤ 32) where
  row_short : (s : ℕ) → s < states d → length (row_lines (next d) (operation_at d) (events d) s) ≤ events d * 15
  unfolding row_lines cell_of
  row_short s h =
      let n = well.few_states in
      flat_short _ 15 (events d) (λ e k. let t = well.closed s e h k in cell_short s e (next d s e) _ (omega arith) (omega arith) (omega arith))

  cells_short : length (cell_lines (next d) (operation_at d) (events d) (states d)) ≤ 30720
  unfolding cell_lines
  cells_short =
      let wide : events d * 15 ≤ 480 = omega arith in
      omega (arith, flat_short (row_lines (next d) (operation_at d) (events d)) (events d * 15) (states d) row_short, mul-le-mul well.few_states wide)

  -- the monitor of 64 states and 32 events at most
  pub monitor_short : length (monitor_text d) ≤ text_max
  unfolding monitor_text
  monitor_short = rw (length-append, length-append) (omega (arith, header_short d.shape, cells_short, stops_short (stopping d) (states d), well.few_states))
