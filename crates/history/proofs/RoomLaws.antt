-- Where the memory and the output have room for all of them, single calls one after another take every event of the machine.
-- Assumes nothing.
use Prim.Native.Nat.{ℕ, suc, ◌+◌, ◌≤◌, ◌<◌}
use native.Mathlib.Omega.{arith}
use mathlib.Core.Path.{◌≡◌, refl, ap, ◌∙◌}
use mathlib.Core.List.{List, [], ◌∷◌, ◌++◌}
use lib.ListN.{length, take, drop, set, length-append, length-set, length-drop}
use lib.Seq.{length-take-le, drop_at}
use borrow.Author.Tests.{lt-leb}
use Rattle.std.specs.Prelude.{Ok}
use Rattle.rule.specs.Drawing.{state_no, event_no}
use Rattle.rule.specs.Machine.{Machine, Laws}
use Rattle.rule.specs.Reach.{Events, none, more}
use Rattle.rule.specs.declared.Operation.{Operation}
use Rattle.rule.specs.declared.Operation.TheVariants.{Halt, Store, Dump}
use Rattle.effects.specs.Effects.{room_turn, answer_in, memory_in, output_in, Turn, move}
use Rattle.effects.specs.declared.Run.{Run}
use Rattle.monitor.specs.Evening.{Outcome, codes, go_on, calls_of}
use Rattle.history.proofs.HistoryLaws.{Drawn, turn_move}

-- all of these events are taken
pub record AllTaken (es : List ℕ) (x : Outcome) : Type 0 where
  pub verdict : x.verdict ≡ Ok tt
  pub taken : codes x.taken ≡ es

module _ (m : Machine) (L : Laws m) (sheet : List ℕ) (D : Drawn m sheet) where
  -- room for so many more events
  record Roomy (n : ℕ) (run : Run) (memory output : List ℕ) : Type 0 where
    valid : run.state.0 < m.states
    memory_room : run.held + n ≤ length memory
    output_room : run.held + n ≤ length output

  abbrev Goes : List ℕ → Type 0
  Goes es = (run : Run) (memory output : List ℕ) → Roomy (length es) run memory output → AllTaken es (calls_of sheet run es memory output)

  abbrev goes : (es : List ℕ) → Turn → (e : ℕ) → Run → (memory output : List ℕ) → Outcome
  goes es turn e run memory output =
      go_on (answer_in turn run.held) e run (memory_in turn run.held e memory) (output_in turn run.held e memory output)
      (λ next left rest. calls_of sheet next es left rest)

  step_taken : (e : ℕ) (es : List ℕ) (run : Run) (memory output : List ℕ) (to : ℕ) (o : Operation) → to < m.states → Goes es
      → run.held + suc (length es) ≤ length memory → run.held + suc (length es) ≤ length output
      → AllTaken (e ∷ es) (goes es (room_turn (move o (state_no to)) run.held (length memory) (length output)) e run memory output)
  step_taken e es run memory output to Halt v on a b =
      let r = on (record { state = state_no to; held = run.held }) memory output (record { valid = v; memory_room = omega arith; output_room = omega arith }) in
      record { verdict = r.verdict; taken = ap (λ (l : List ℕ). e ∷ l) r.taken }
  step_taken e es run memory output to Store v on a b =
      let g : run.held < length memory = omega arith in
      let long : length (set memory run.held e) ≡ length memory = length-set memory run.held e in
      let r = on (record { state = state_no to; held = run.held + 1 }) (set memory run.held e) output
      (record { valid = v; memory_room = omega arith; output_room = omega arith }) in
      rw (lt-leb _ _ g) (record { verdict = r.verdict; taken = ap (λ (l : List ℕ). e ∷ l) r.taken })
  step_taken e es run memory output to Dump v on a b =
      let g : run.held < length output = omega arith in
      let front = take run.held memory ++ e ∷ [] in
      let long : length front ≡ run.held + 1 =
      length-append (take run.held memory) (e ∷ []) ∙ ap (λ (n : ℕ). n + 1) (length-take-le run.held memory (omega arith)) in
      let rest : drop (run.held + 1) (front ++ drop (run.held + 1) output) ≡ drop (run.held + 1) output =
      drop_at front (drop (run.held + 1) output) (run.held + 1) long in
      let left = length-drop (run.held + 1) output in
      let r = on (record { state = state_no to; held = 0 }) memory (drop (run.held + 1) output)
      (record { valid = v; memory_room = omega arith; output_room = omega arith }) in
      rw (lt-leb _ _ g, rest) (record { verdict = r.verdict; taken = ap (λ (l : List ℕ). e ∷ l) r.taken })

  calls_go : {es : List ℕ} → Events m.events es → Goes es
  unfolding calls_of
  calls_go none run memory output r = record { verdict = refl; taken = refl }
  calls_go (more {e = e} {w = es} k known) run memory output r =
      rw (turn_move m L sheet D run (event_no e) memory r.valid (omega (arith, r.memory_room)) k output)
      (step_taken e es run memory output (m.next run.state.0 e) (m.operation (m.next run.state.0 e)) (L.next_in _ _ r.valid k)
      (calls_go known) r.memory_room r.output_room)

  pub calls_taken : {es : List ℕ} → Events m.events es → (run : Run) (memory output : List ℕ) → run.state.0 < m.states
      → run.held + length es ≤ length memory → run.held + length es ≤ length output → AllTaken es (calls_of sheet run es memory output)
  calls_taken known run memory output v a b = calls_go known run memory output (record { valid = v; memory_room = a; output_room = b })
