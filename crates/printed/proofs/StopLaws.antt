-- Laws of the stopping states' line.
-- Assumes nothing.
use Prim.Native.Nat.{ℕ, zero, suc, ◌<◌}
use mathlib.Core.Path.{◌≡◌, refl, sym, ap, ◌∙◌}
use mathlib.Core.Bool.{Bool, true, false, cond}
use mathlib.Core.List.{List, [], ◌∷◌, ◌++◌, append_assoc, append-nil}
use native.Mathlib.Omega.{arith}
use native.Mathlib.Decide.{ℕ_discrete}
use lib.ListN.{length, length-append}
use Rattle.rule.specs.declared.Operation.{Operation}
use Rattle.rule.specs.declared.Operation.TheVariants.{Halt, Store, Dump}
use Rattle.rulefile.specs.Layout.{flat_up_to}
use Rattle.printed.specs.Text.{decimal, rest, line}
use Rattle.printed.specs.Printing.{those_below, or_none, stop_line, stop_word}
use Rattle.printed.specs.Writers.{halts, halts_into, stop_at}
use Rattle.operations.specs.Marks.{operation_in}
use Rattle.operations.specs.declared.Marks.{Marks}
use Rattle.printed.specs.Writing.{Puts}
use Rattle.printed.specs.declared.text.Text.{Text}
use Rattle.printed.proofs.WritingLaws.{puts_then, puts_last}

goes_on : (o : Operation) → (o ≡ Halt → ⊥) → halts o ≡ false
goes_on Halt n = absurd (n refl)
goes_on Store n = refl
goes_on Dump n = refl

-- what is put of one state
module _ (marks : Marks) (q : ℕ) {o : Operation} (is : o ≡ operation_in marks q) where
  pub stop_put : {r s : Text} → o ≡ Halt → Puts r s (32 ∷ decimal q) → Puts r s (stop_at (halts_into marks) q)
  unfolding stop_at halts_into
  stop_put e p = rw (← is, e) p

  pub stop_not : (o ≡ Halt → ⊥) → stop_at (halts_into marks) q ≡ []
  unfolding stop_at halts_into
  stop_not n = rw (← is, goes_on o n)

-- no word, or some, by what is put of them before the line's end
by_words : (ws : List (List ℕ)) (l : List ℕ) → rest ws ≡ l ++ (10 ∷ [])
    → (length l ≡ 0 → rest (or_none ws) ≡ l ++ (32 ∷ 45 ∷ 10 ∷ [])) × (0 < length l → rest (or_none ws) ≡ l ++ (10 ∷ []))
unfolding rest
by_words [] [] e = (λ z. refl, λ h. absurd (omega arith))
by_words [] (x ∷ l) e =
    let q : ◌≡◌ {A = List ℕ} [] (l ++ (10 ∷ [])) = cc in
    absurd (omega (arith, ap length q, length-append l (10 ∷ [])))
by_words (w ∷ ws) [] e = absurd (let z : ◌≡◌ {A = ℕ} 32 10 = cc in omega arith)
by_words (w ∷ ws) (x ∷ l) e = (λ z. absurd (omega arith), λ h. e)

module _ (has : ℕ → Bool) (n : ℕ) where
  abbrev pub stops : List ℕ
  stops = flat_up_to (stop_at has) n

those_rest : (has : ℕ → Bool) (n : ℕ) (ws : List (List ℕ)) → rest (those_below has n ++ ws) ≡ stops has n ++ rest ws
unfolding those_below flat_up_to rest stop_at
those_rest has zero ws = refl
those_rest has (suc n) ws =
    rw (append_assoc (those_below has n))
    (those_rest has n (cond (has n) (decimal n ∷ []) [] ++ ws) ∙ rw (by (has n)) (sym (append_assoc (stops has n) (stop_at has n) (rest ws))))
  where
    by : (b : Bool) → rest (cond b (decimal n ∷ []) [] ++ ws) ≡ cond b (32 ∷ decimal n) [] ++ rest ws
    by true = refl
    by false = refl

module _ (has : ℕ → Bool) (n : ℕ) where
  words : rest (those_below has n) ≡ stops has n ++ (10 ∷ [])
  unfolding rest
  words = rw append-nil at (those_rest has n [])

  pub stop_none : length (stops has n) ≡ 0 → stop_line has n ≡ stop_word ++ (stops has n ++ (32 ∷ 45 ∷ 10 ∷ []))
  unfolding stop_line line
  stop_none z = rw ((by_words (those_below has n) (stops has n) words).0 z)

  pub stop_some : 0 < length (stops has n) → stop_line has n ≡ stop_word ++ (stops has n ++ (10 ∷ []))
  unfolding stop_line line
  stop_some h = rw ((by_words (those_below has n) (stops has n) words).1 h)

  -- the line part by part: where no state was put, it has `-`
  module _ {r s t u : Text} (p : Puts r s stop_word) (q : Puts s t (stops has n)) where
    pub none_put : t.at ≡ s.at → Puts t u (32 ∷ 45 ∷ 10 ∷ []) → Puts r u (stop_line has n)
    none_put e w =
        elim (ℕ_discrete (length (stops has n)) 0) [
          | yes z ↦ rw (stop_none z) (puts_then p (puts_then q w))
          | no d ↦ rw (stop_some (omega arith)) (puts_then p (puts_last (stops has n ++ (10 ∷ [])) (omega (arith, p.put.place, q.put.place)) (puts_then q w)))
        ]

    pub some_put : (t.at ≡ s.at → ⊥) → Puts t u (10 ∷ []) → Puts r u (stop_line has n)
    some_put d w = rw (stop_some (omega (arith, p.put.place, q.put.place))) (puts_then p (puts_then q w))
