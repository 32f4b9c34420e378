-- Every history on a machine's sheet is a course of the machine, so it keeps demand 3; and after a halt every event under K is answered halt.
-- Assumes nothing.
use Prim.Native.Nat.{ℕ, ◌+◌, ◌*◌, ◌/◌, ◌%◌, ◌<◌, ◌≤◌}
use native.Mathlib.Omega.{arith}
use native.Mathlib.Decide.{dec_le}
use native.Mathlib.Numerals.{add-one}
use mathlib.Core.Path.{◌≡◌, refl, ap, ◌∙◌}
use mathlib.Core.Bool.{true, false}
use mathlib.Core.List.{List, [], ◌∷◌, ◌++◌, append-nil}
use lib.ListN.{length, take, drop, get_or, length-append, length-set}
use lib.Seq.{take_at, take-suc-set, length-take-le}
use lib.Dec.{eqb}
use borrow.Author.Tests.{le-ltb, le-leb, lt-leb}
use Rattle.std.specs.Prelude.{None, Ok, Err}
use Rattle.rule.specs.Drawing.{state_no}
use Rattle.rule.specs.Operations.{mark_of}
use Rattle.rule.specs.Reach.{after}
use Rattle.rule.specs.Machine.{Machine, Laws, Sharp}
use Rattle.rule.specs.declared.EventNo.{EventNo}
use Rattle.rule.specs.declared.Operation.{Operation}
use Rattle.rule.specs.declared.Operation.TheVariants.{Halt, Store, Dump}
use Rattle.rule.specs.declared.Refusal.{Refusal}
use Rattle.rule.specs.declared.Refusal.TheVariants.{Memory, Room}
use Rattle.sheet.specs.Opening.{opened_of}
use Rattle.sheet.specs.declared.Head.{Head}
use Rattle.effects.specs.Effects.{fresh_run, room_turn, answer_in, memory_in, output_in, Turn, move}
use Rattle.sheet.specs.Layout.{operation_of}
use Rattle.monitor.specs.Event.{cell_turn, look_of, turn_of, step_turn}
use Rattle.effects.specs.declared.Run.{Run}
use Rattle.history.specs.Course.{Entry, codes, released_by, held_by, Course, start, step, Kept, KeptSharp}
use Rattle.history.specs.History.{History, fresh, call, others, log_after, run_after, released_after}
use Rattle.history.proofs.CourseLaws.{course_kept, course_sharp, course_at, course_all, course_out, halted}

-- the sheet is the machine's: it opens as the machine's numbers, and each cell is the machine's move
pub record Drawn (m : Machine) (sheet : List ℕ) : Type 0 where
  pub few : m.states ≤ 64
  pub opened : opened_of sheet ≡ Ok (record { states = m.states; events = m.events; initial = state_no m.initial })
  pub cells : (q e : ℕ) → q < m.states → e < m.events → get_or sheet (q * m.events + e) 0 ≡ m.next q e + 64 * mark_of (m.operation (m.next q e))

-- a mark is the operation's that it was made of, and never 3
pub mark_back : (o : Operation) → operation_of (mark_of o) ≡ o
mark_back Halt = refl
mark_back Store = refl
mark_back Dump = refl

pub mark_known : (o : Operation) → eqb (mark_of o) 3 ≡ false
mark_known Halt = refl
mark_known Store = refl
mark_known Dump = refl

-- what a call comes to, in the machine's terms
data Seen (m : Machine) (q e held room : ℕ) : Turn → Type 0 where
  away : (r : Refusal) → Seen m q e held room (Err r)
  past : Seen m q e held room (Ok None)
  went : (o : Operation) → m.operation (m.next q e) ≡ o → e < m.events → (o ≡ Store → held < room) → Seen m q e held room (move o (state_no (m.next q e)))

module _ (m : Machine) (L : Laws m) (sheet : List ℕ) (D : Drawn m sheet) where
  abbrev head : Head
  head = record { states = m.states; events = m.events; initial = state_no m.initial }

  turn_is : (run : Run) (e : EventNo) (memory output : List ℕ) → turn_of sheet run e memory output ≡ step_turn head sheet run e memory output
  turn_is run e memory output = rw D.opened

  module _ (run : Run) (e : EventNo) (memory : List ℕ) (v : run.state.0 < m.states) (f : run.held ≤ length memory) where
    abbrev to : ℕ
    to = m.next run.state.0 e.0

    abbrev cell : ℕ
    cell = get_or sheet (run.state.0 * m.events + e.0) 0

    -- an event past the machine's is ignored
    look_past : m.events ≤ e.0 → look_of head sheet run e (length memory) ≡ Ok None
    unfolding look_of
    look_past k = simp (lt-leb _ _ v, le-ltb _ _ f, le-leb _ _ k)

    -- any other is the machine's move
    cell_turn_is : e.0 < m.events → cell_turn cell m.states run e ≡ move (m.operation to) (state_no to)
    unfolding cell_turn
    cell_turn_is k =
        let u = L.next_in run.state.0 e.0 v k in
        let c = D.cells run.state.0 e.0 v k in
        let d : cell / 64 ≡ mark_of (m.operation to) = omega (arith, D.few) in
        let r : cell % 64 ≡ to = omega (arith, D.few) in
        simp (d, r, lt-leb _ _ u, mark_known, mark_back)

    look_move : e.0 < m.events → look_of head sheet run e (length memory) ≡ move (m.operation to) (state_no to)
    unfolding look_of
    look_move k = simp (lt-leb _ _ v, le-ltb _ _ f, lt-leb _ _ k) (cell_turn_is k)

    -- so an event comes to the machine's move, if there is room for what its operation writes
    pub turn_move : e.0 < m.events → (output : List ℕ)
        → turn_of sheet run e memory output ≡ room_turn (move (m.operation to) (state_no to)) run.held (length memory) (length output)
    turn_move k output =
        turn_is run e memory output
        ∙ ap (λ (t : Turn). room_turn t run.held (length memory) (length output)) (look_move k)

    see_room : (o : Operation) → m.operation to ≡ o → e.0 < m.events → (space : ℕ) → Dec (length memory ≤ run.held) → Dec (space ≤ run.held)
        → Seen m run.state.0 e.0 run.held (length memory) (room_turn (move o (state_no to)) run.held (length memory) space)
    see_room Halt p k space a b = went Halt p k (λ h. cc)
    see_room Store p k space (yes a) b = rw (le-leb _ _ a) (away Memory)
    see_room Store p k space (no a) b = let g : run.held < length memory = omega arith in rw (lt-leb _ _ g) (went Store p k (λ h. g))
    see_room Dump p k space a (yes b) = rw (le-leb _ _ b) (away Room)
    see_room Dump p k space a (no b) = let g : run.held < space = omega arith in rw (lt-leb _ _ g) (went Dump p k (λ h. cc))

    see_by : (output : List ℕ) → Dec (m.events ≤ e.0) → Seen m run.state.0 e.0 run.held (length memory) (step_turn head sheet run e memory output)
    see_by output (yes k) = rw (look_past k) past
    see_by output (no k) =
        let u : e.0 < m.events = omega arith in
        rw (look_move u) (see_room (m.operation to) refl u (length output) (dec_le (length memory) run.held) (dec_le (length output) run.held))

    see : (output : List ℕ) → Seen m run.state.0 e.0 run.held (length memory) (turn_of sheet run e memory output)
    see output = rw (turn_is run e memory output) (see_by output (dec_le m.events e.0))

  -- where a history stands: it is a course, at a state of the machine, and holds no more than the memory has
  record Follows (log : List Entry) (released : List ℕ) (run : Run) (memory : List ℕ) : Type 0 where
    course : Course m log released (take run.held memory) run.state.0
    valid : run.state.0 < m.states
    within : run.held ≤ length memory

  course_by : {log : List Entry} {r h : List ℕ} {q : ℕ} → Course m log r h q → (e : ℕ) → e < m.events → (o : Operation) → m.operation (m.next q e) ≡ o
      → Course m (log ++ record { code = e; operation = o } ∷ []) (released_by o r h e) (held_by o h e) (m.next q e)
  course_by c e k o p = rw p at (step c e k)

  follow_turn : (log : List Entry) (released : List ℕ) (run : Run) (memory : List ℕ) (e : EventNo) (output : List ℕ) → Follows log released run memory
      → (turn : Turn) → Seen m run.state.0 e.0 run.held (length memory) turn
      → Follows (log_after (answer_in turn run.held) e.0 log)
      (released_after (answer_in turn run.held) (output_in turn run.held e.0 memory output) released)
      (run_after (answer_in turn run.held) run) (memory_in turn run.held e.0 memory)
  follow_turn log released run memory e output f turn (away r) = f
  follow_turn log released run memory e output f turn past = f
  follow_turn log released run memory e output f turn (went Halt p u g) =
      record {
        course = rw append-nil (course_by f.course e.0 u Halt p);
        valid = L.next_in _ _ f.valid u;
        within = f.within;
      }
  follow_turn log released run memory e output f turn (went Store p u g) =
      let room : run.held < length memory = g refl in
      record {
        course = rw (append-nil, add-one, take-suc-set) (course_by f.course e.0 u Store p);
        valid = L.next_in _ _ f.valid u;
        within = simp length-set (omega arith);
      }
  follow_turn log released run memory e output f turn (went Dump p u g) =
      let long : length (take run.held memory ++ e.0 ∷ []) ≡ run.held + 1 =
      length-append (take run.held memory) (e.0 ∷ []) ∙ ap (λ (n : ℕ). n + 1) (length-take-le _ _ f.within) in
      record {
        course = rw (take_at (take run.held memory ++ e.0 ∷ []) (drop (run.held + 1) output) (run.held + 1) long) (course_by f.course e.0 u Dump p);
        valid = L.next_in _ _ f.valid u;
        within = omega arith;
      }

  follows : {log : List Entry} {released : List ℕ} {run : Run} {memory : List ℕ} → History sheet log released run memory → Follows log released run memory
  follows (fresh run memory s) =
      let e : fresh_run (state_no m.initial) ≡ run = cc (D.opened, s) in
      rw (← e) (record { course = start; valid = L.initial_in; within = omega arith })
  follows (call {log = log} {released = released} {run = run} {memory = memory} h e output r memory' output' p) =
      let f : Follows log released run memory = follows h in
      rw (p.answer, p.memory_after, p.output_after) (follow_turn log released run memory e output f _ (see run e memory f.valid f.within output))
  follows (others h memory' l t) =
      let f = follows h in
      record { course = rw t f.course; valid = f.valid; within = omega (arith, l, f.within) }

  -- on a history's run every event past the machine's is ignored
  pub history_ignores : {log : List Entry} {released : List ℕ} {run : Run} {memory : List ℕ} → History sheet log released run memory
      → (e : EventNo) → m.events ≤ e.0 → (output : List ℕ) → turn_of sheet run e memory output ≡ Ok None
  history_ignores {run = run} {memory = memory} h e k output =
      let f = follows h in
      turn_is run e memory output
      ∙ ap (λ (t : Turn). room_turn t run.held (length memory) (length output)) (look_past run e memory f.valid f.within k)

  -- demand 3 of any history on the machine's sheet
  pub history_kept : {log : List Entry} {released : List ℕ} {run : Run} {memory : List ℕ} → History sheet log released run memory
      → Kept m log released (take run.held memory)
  history_kept h = course_kept m L (follows h).course

  pub history_sharp : {log : List Entry} {released : List ℕ} {run : Run} {memory : List ℕ} → Sharp m → History sheet log released run memory → KeptSharp m log
  history_sharp S h = course_sharp m L (follows h).course S

  -- after a halt every event of the machine is taken and answered halt, and nothing changes but the state
  pub history_halted : {log : List Entry} {released : List ℕ} {run : Run} {memory : List ℕ} → History sheet log released run memory
      → (before rest : List Entry) (c : ℕ) → log ≡ before ++ record { code = c; operation = Halt } ∷ rest
      → (e : EventNo) → e.0 < m.events → (output : List ℕ)
      → turn_of sheet run e memory output ≡ move Halt (state_no (m.next run.state.0 e.0))
  history_halted {run = run} {memory = memory} h before rest c p e k output =
      let f = follows h in
      let o : m.operation (m.next run.state.0 e.0) ≡ Halt = L.halt_stays _ _ f.valid k (halted m L f.course before rest c p) in
      turn_move run e memory f.valid f.within k output
      ∙ ap (λ (x : Operation). room_turn (move x (state_no (m.next run.state.0 e.0))) run.held (length memory) (length output)) o

  -- it stands at the state after the codes that were taken, a state of the machine, and holds no more than the memory has
  pub history_at : {log : List Entry} {released : List ℕ} {run : Run} {memory : List ℕ} → History sheet log released run memory
      → run.state.0 ≡ after m.next m.initial (codes log)
  history_at h = course_at m L (follows h).course

  pub history_in : {log : List Entry} {released : List ℕ} {run : Run} {memory : List ℕ} → History sheet log released run memory
      → (run.state.0 < m.states) × (run.held ≤ length memory)
  history_in h = let f = follows h in (f.valid, f.within)

  -- where that state does not halt, released then held is everything taken
  pub history_all : {log : List Entry} {released : List ℕ} {run : Run} {memory : List ℕ} → History sheet log released run memory
      → (m.operation run.state.0 ≡ Halt → ⊥) → released ++ take run.held memory ≡ codes log
  history_all h = course_all m L (follows h).course

  -- where that state is accepting the last event was answered dump, everything taken is released, and nothing is held
  pub history_out : {log : List Entry} {released : List ℕ} {run : Run} {memory : List ℕ} → History sheet log released run memory
      → (before : List Entry) (x : Entry) → log ≡ before ++ x ∷ [] → m.accepting run.state.0 ≡ true
      → (x.operation ≡ Dump) × (released ≡ codes log) × (run.held ≡ 0)
  history_out {run = run} {memory = memory} h before x p a =
      let f = follows h in
      let o = course_out m L f.course before x p a in
      (o.0, o.1, omega (arith, f.within, length-take-le run.held memory f.within, ap length o.2))
