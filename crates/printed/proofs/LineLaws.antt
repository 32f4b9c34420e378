-- Laws of lines: what is put number by number.
-- Assumes nothing.
use Prim.Native.Nat.{ℕ}
use mathlib.Core.Path.{◌≡◌}
use mathlib.Core.List.{List, [], ◌∷◌, ◌++◌, append_assoc}
use Rattle.rule.specs.declared.Operation.{Operation}
use Rattle.rule.specs.declared.Shape.{Shape}
use Rattle.rule.specs.declared.Told.{Told}
use Rattle.printed.specs.Text.{decimal, rest, line}
use Rattle.printed.specs.Printing.{rule_word, refused_word, header, cell_line, cell_of, refusal_line}
use Rattle.printed.specs.Writers.{cell_end}
use Rattle.printed.specs.Writing.{Puts}
use Rattle.printed.specs.declared.text.Text.{Text as Out}
use Rattle.printed.proofs.WritingLaws.{puts_then}

-- two numbers, each after a space
abbrev pub two : ℕ → ℕ → List ℕ
two m n = 32 ∷ (decimal m ++ (32 ∷ decimal n))

pub two_put : (m n : ℕ) {o o₁ o₂ : Out} → Puts o o₁ (32 ∷ decimal m) → Puts o₁ o₂ (32 ∷ decimal n) → Puts o o₂ (two m n)
two_put m n p q = puts_then p q

-- and more after them
and_more : (m n : ℕ) {end : List ℕ} {o o₁ o₂ : Out} → Puts o o₁ (two m n) → Puts o₁ o₂ end → Puts o o₂ (32 ∷ (decimal m ++ (32 ∷ (decimal n ++ end))))
and_more m n p q = rw (append_assoc (decimal m)) at (puts_then p q)

pub refusal_put : (t : Told) {o o₁ o₂ o₃ : Out} → Puts o o₁ ((refused_word ++ (32 ∷ [])) ++ decimal t.number)
    → Puts o₁ o₂ (two t.a t.b) → Puts o₂ o₃ (10 ∷ []) → Puts o o₃ (refusal_line t)
unfolding refusal_line line rest
refusal_put t p q r = puts_then p (and_more t.a t.b q r)

pub header_put : (h : Shape) {o o₁ o₂ o₃ o₄ : Out} → Puts o o₁ ((rule_word ++ (32 ∷ [])) ++ decimal h.class)
    → Puts o₁ o₂ (two h.states h.events) → Puts o₂ o₃ (two h.pairs h.initial.0) → Puts o₃ o₄ (10 ∷ []) → Puts o o₄ (header h)
unfolding header line rest
header_put h p q r s = puts_then p (and_more h.states h.events q (and_more h.pairs h.initial.0 r s))

-- a cell whose next state and operation were looked up
pub cell_put : (next : ℕ → ℕ → ℕ) (operation : ℕ → Operation) (s e : ℕ) {t : ℕ} {x : Operation} → t ≡ next s e → x ≡ operation t
    → {o o₁ o₂ o₃ : Out} → Puts o o₁ (decimal s) → Puts o₁ o₂ (two e t) → Puts o₂ o₃ (cell_end x) → Puts o o₃ (cell_of next operation s e)
unfolding cell_of cell_line line rest
cell_put next operation s e {t} i j p q r = rw (← i, ← j) (puts_then p (and_more e t q r))

-- the end of a cell
pub end_put : {x y : Operation} {o o' : Out} → x ≡ y → Puts o o' (cell_end y) → Puts o o' (cell_end x)
end_put e p = rw e p
