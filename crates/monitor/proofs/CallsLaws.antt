-- Laws of single calls one after another: what one more comes to, what two logs come to, and that real calls come to this and to nothing else.
-- Assumes nothing.
use Prim.Native.Nat.{ℕ}
use mathlib.Core.Path.{◌≡◌, refl, sym, ap, ◌∙◌}
use mathlib.Core.List.{List, [], ◌∷◌, ◌++◌, append_assoc}
use lib.ListN.{take, drop}
use Rattle.std.specs.Prelude.{None, Some, Ok, Err}
use Rattle.rule.specs.Drawing.{event_no}
use Rattle.rule.proofs.RefusalLaws.{not_both}
use Rattle.effects.specs.Effects.{answer_in, memory_in, output_in, Answer}
use Rattle.effects.specs.declared.Run.{Run}
use Rattle.monitor.specs.Event.{turn_of, EventPromise}
use Rattle.monitor.specs.Evening.{Entry, Outcome, joined, go_on, calls_of, Calls, over, refused, ignored, taken}

-- the first of two joins goes first
pub joined_joined : (a₁ a₂ : List Entry) (b₁ b₂ c₁ c₂ : List ℕ) (x : Outcome)
    → joined a₁ b₁ c₁ (joined a₂ b₂ c₂ x) ≡ joined (a₁ ++ a₂) (b₁ ++ b₂) (c₁ ++ c₂) x
joined_joined a₁ a₂ b₁ b₂ c₁ c₂ x = rw (append_assoc a₁ a₂ x.taken, append_assoc b₁ b₂ x.released, append_assoc c₁ c₂ x.ignored)

module _ (sheet : List ℕ) where
  abbrev pub later : List ℕ → Run → (memory rest : List ℕ) → Outcome
  later es = λ next left rest. calls_of sheet next es left rest

  -- one call more at the front: by any answer, memory and output that keep its promise
  pub calls_more : (run : Run) (e : ℕ) (es memory output : List ℕ) (r : Answer) (memory' output' : List ℕ)
      → EventPromise sheet run (event_no e) memory output r memory' output'
      → calls_of sheet run (e ∷ es) memory output ≡ go_on r e run memory' output' (later es)
  unfolding calls_of
  calls_more run e es memory output r memory' output' p = rw (p.answer, p.memory_after, p.output_after)

  -- what the call of an event leaves keeps its promise
  pub kept_by_turn : (run : Run) (e : ℕ) (memory output : List ℕ) → let t = turn_of sheet run (event_no e) memory output in
      EventPromise sheet run (event_no e) memory output (answer_in t run.held) (memory_in t run.held e memory) (output_in t run.held e memory output)
  kept_by_turn run e memory output = record { answer = refl; memory_after = refl; output_after = refl }

  -- real calls come to this
  pub calls_are : {run : Run} {log memory output : List ℕ} {x : Outcome} → Calls sheet run log memory output x → x ≡ calls_of sheet run log memory output
  unfolding calls_of
  calls_are over = refl
  calls_are (refused {run} {e} {es} {memory} {output} {x} {memory'} {output'} p) = sym (calls_more run e es memory output (Err x) memory' output' p)
  calls_are (ignored {run} {e} {es} {memory} {output} {memory'} {output'} p c) =
      ap (joined [] [] (e ∷ [])) (calls_are c) ∙ sym (calls_more run e es memory output (Ok None) memory' output' p)
  calls_are (taken {run} {e} {es} {memory} {output} {t} {memory'} {output'} p c) =
      ap (joined (record { code = e; operation = t.operation } ∷ []) (take t.released output') []) (calls_are c)
      ∙ sym (calls_more run e es memory output (Ok (Some t)) memory' output' p)

  -- and there are calls that do
  calls_by : (run : Run) (e : ℕ) (es memory output : List ℕ)
      → ((next : Run) (left rest : List ℕ) → Calls sheet next es left rest (calls_of sheet next es left rest))
      → (r : Answer) (memory' output' : List ℕ) → EventPromise sheet run (event_no e) memory output r memory' output'
      → Calls sheet run (e ∷ es) memory output (go_on r e run memory' output' (later es))
  calls_by run e es memory output go (Err x) memory' output' p = refused p
  calls_by run e es memory output go (Ok None) memory' output' p = ignored p (go run memory' output')
  calls_by run e es memory output go (Ok (Some t)) memory' output' p = taken p (go t.run memory' (drop t.released output'))

  pub calls_of_is : (run : Run) (log memory output : List ℕ) → Calls sheet run log memory output (calls_of sheet run log memory output)
  unfolding calls_of
  calls_of_is run [] memory output = over
  calls_of_is run (e ∷ es) memory output = calls_by run e es memory output (λ next left rest. calls_of_is next es left rest) _ _ _
      (kept_by_turn run e memory output)

  -- one log and then another: where no event of the first is refused, the second gets what the first left, the unwritten rest of the output too
  abbrev Appends : Outcome → (b : List ℕ) → Outcome → Type 0
  Appends x b whole = x.verdict ≡ Ok tt → whole ≡ joined x.taken x.released x.ignored (calls_of sheet x.run b x.memory x.rest)

  append_by : (e : ℕ) (a b : List ℕ) (run : Run)
      → ((next : Run) (left rest : List ℕ) → Appends (calls_of sheet next a left rest) b (calls_of sheet next (a ++ b) left rest))
      → (r : Answer) (memory' output' : List ℕ) → Appends (go_on r e run memory' output' (later a)) b (go_on r e run memory' output' (later (a ++ b)))
  append_by e a b run go (Err x) memory' output' p = not_both p refl
  append_by e a b run go (Ok None) memory' output' p =
      let x = calls_of sheet run a memory' output' in
      ap (joined [] [] (e ∷ [])) (go run memory' output' p)
      ∙ joined_joined [] x.taken [] x.released (e ∷ []) x.ignored (calls_of sheet x.run b x.memory x.rest)
  append_by e a b run go (Ok (Some t)) memory' output' p =
      let one : List Entry = record { code = e; operation = t.operation } ∷ [] in
      let x = calls_of sheet t.run a memory' (drop t.released output') in
      ap (joined one (take t.released output') []) (go t.run memory' (drop t.released output') p)
      ∙ joined_joined one x.taken (take t.released output') x.released [] x.ignored (calls_of sheet x.run b x.memory x.rest)

  pub calls_append : (a b : List ℕ) (run : Run) (memory output : List ℕ)
      → Appends (calls_of sheet run a memory output) b (calls_of sheet run (a ++ b) memory output)
  unfolding calls_of
  calls_append [] b run memory output p = refl
  calls_append (e ∷ a) b run memory output p =
      let t = turn_of sheet run (event_no e) memory output in
      append_by e a b run (λ next left rest. calls_append a b next left rest)
      (answer_in t run.held) (memory_in t run.held e memory) (output_in t run.held e memory output) p
