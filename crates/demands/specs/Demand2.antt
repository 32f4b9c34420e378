-- DEMAND 2. For each rule of the four classes the monitor does, in every state and at every code, what the published construction says; in joint mode,
-- what the construction of M-105 says, which is one for all classes.
-- A rule read and written again is byte for byte the same file; a rule written and read is the same rule.
-- Assumes nothing: these are statements. proofs/Demand2 proves them.
use Rattle.std.specs.Prelude.{ℕ, ◌/◌, ◌%◌, ◌≤◌, ◌<◌, ◌≡◌, true, ◌↔◌, List, ◌++◌, length, get_or, drop, take, Ok, Err}
use Rattle.octets.specs.Numbers.{Bytes}
use Rattle.rule.specs.Reach.{place_of}
use Rattle.rule.specs.Drawing.{Drawing, states, events, initial, next, state_no, drawn, rule_of, Same}
use Rattle.rule.specs.Stopping.{stopping}
use Rattle.rule.specs.Classes.{OfClass}
use Rattle.rule.specs.Constructions.{BuiltMove, BuiltStop}
use Rattle.rule.specs.declared.EventNo.{EventNo}
use Rattle.rule.specs.declared.Operation.{Operation}
use Rattle.rule.specs.Given.{NoRow, Given}
use Rattle.rule.specs.Verdict.{Written}
use Rattle.rule.specs.declared.Refusal.{Refusal}
use Rattle.rule.specs.declared.Rule.{Rule}
use Rattle.rulefile.specs.Layout.{drawing_in}
use Rattle.rulefile.specs.Reading.{reading_of}
use Rattle.rulefile.specs.Writing.{WritePromise, Held}
use Rattle.making.specs.Given.{Making, making_order}
use Rattle.sheet.specs.Layout.{sheet_of}
use Rattle.making.specs.Making.{MakePromise}
use Rattle.sheet.specs.Opening.{opened_of}
use Rattle.effects.specs.Effects.{Answer, move, room_turn, TurnPromise}
use Rattle.effects.specs.declared.Run.{Run}
use Rattle.sheet.specs.Layout.{operation_of}
use Rattle.monitor.specs.Event.{EventPromise}

-- the sheet made from a rule file is the monitor of the construction for the rule's class and mode
pub record Demand2 (d : Drawing) (sheet : List ℕ) : Type 0 where
  -- the rule is of its class
  pub of_class : OfClass d d.shape.class
  -- the sheet opens with the rule's N, K and initial state
  pub opened : opened_of sheet ≡ Ok (record { states = states d; events = events d; initial = state_no (initial d) })
  -- at every state and code, the cell's operation and next state are the construction's, and no other's
  pub cells : (q e : ℕ) → q < states d → e < events d → (a : Operation) (t : ℕ)
      → BuiltMove d q e d.shape.class d.shape.mode a t
      ↔ ((a ≡ operation_of (get_or sheet (place_of (events d) q e) 0 / 64)) × (t ≡ get_or sheet (place_of (events d) q e) 0 % 64))
  -- and one event does that: in every state, at every code, with as much held as the memory has, the answer, the memory and the output are those
  -- of the construction's operation, or the refusal where there is no room for it
  pub does : (run : Run) (e : EventNo) (memory output : List ℕ) → run.state.0 < states d → e.0 < events d → run.held ≤ length memory
      → (a : Operation) (t : ℕ) → BuiltMove d run.state.0 e.0 d.shape.class d.shape.mode a t
      → (r : Answer) (memory' output' : List ℕ) → EventPromise sheet run e memory output r memory' output'
      → TurnPromise (room_turn (move a (state_no t)) run.held (length memory) (length output)) run e memory output r memory' output'
  -- the stopping states are the construction's, and they lead only to stopping states
  pub stops : (q : ℕ) → q < states d → BuiltStop d q d.shape.class d.shape.mode ↔ (stopping d q ≡ true)
  pub stays : (q e : ℕ) → q < states d → e < events d → BuiltStop d q d.shape.class d.shape.mode
      → BuiltStop d (next d q e) d.shape.class d.shape.mode

-- every rule that the table of refusals does not refuse has its sheet made, where there is room, and no other has; a refusal is that of the first
-- row that holds
pub record EveryRule : Type 0 where
  pub made : (f out : List ℕ) (w : Written) (out' : List ℕ) → MakePromise f out w out'
      → (n : ℕ) → (w ≡ Ok n) ↔ (NoRow (Making f (length out)) × (n ≡ length (sheet_of (drawing_in f))))
  pub refused : (f out : List ℕ) (w : Written) (out' : List ℕ) → MakePromise f out w out'
      → (x : Refusal) → (w ≡ Err x) ↔ Given (Making f (length out)) x making_order

-- and its files come back as they were
pub record RoundTrips : Type 0 where
  -- a file that is read and written again, into any output with room, is byte for byte the same
  pub read_written : (f : List ℕ) → Bytes f → (r : Rule) → reading_of f ≡ Ok r → (out : List ℕ) → length f ≤ length out
      → (w : Written) (out' : List ℕ) → WritePromise r out w out' → (w ≡ Ok (length f)) × (out' ≡ f ++ drop (length f) out)
  -- a rule that is written and read again is the same rule, with 0 in its unused places
  pub written_read : (r : Rule) → Held r → (out : List ℕ) (n : ℕ) (out' : List ℕ) → WritePromise r out (Ok n) out'
      → (reading_of (take n out') ≡ Ok (rule_of (drawn r))) × Same (rule_of (drawn r)) r
