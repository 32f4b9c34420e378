-- A machine: states, moves, accepted states and an operation for each target, with the laws by which a monitor is judged.
-- Demand 3 is proved of machines. A drawing is one (`machine_of`); another way to choose the operation is another one.
-- Assumes nothing.
use Rattle.std.specs.Prelude.{ℕ, ◌<◌, ◌≡◌, Bool, true, List, [], ◌∷◌}
use Rattle.rule.specs.Reach.{after, Events}
use Rattle.rule.specs.Drawing.{Drawing, states, events, initial, next}
use Rattle.rule.specs.Acceptance.{meets_all}
use Rattle.rule.specs.Operations.{operation_at}
use Rattle.rule.specs.declared.Operation.{Operation}
use Rattle.rule.specs.declared.Operation.TheVariants.{Halt, Dump}

pub record Machine : Type 0 where
  pub states : ℕ
  pub events : ℕ
  pub initial : ℕ
  pub next : ℕ → ℕ → ℕ
  pub accepting : ℕ → Bool
  pub operation : ℕ → Operation

-- the machine of a drawing with a choice of the operation, and with that of its mode
abbrev pub machine_by : Drawing → (ℕ → Operation) → Machine
machine_by d operation =
    record {
      states = states d;
      events = events d;
      initial = initial d;
      next = next d;
      accepting = meets_all d.pairs;
      operation = operation;
    }

abbrev pub machine_of : Drawing → Machine
machine_of d = machine_by d (operation_at d)

-- the empty sequence is accepted, and any other when the state after it is accepting
abbrev pub accepts_by : Machine → List ℕ → Bool
accepts_by m [] = true
accepts_by m (e ∷ w) = m.accepting (after m.next (m.next m.initial e) w)

-- no events lead from t to an accepting state; zero moves count
abbrev pub NeverAccepts : Machine → ℕ → Type 0
NeverAccepts m t = (w : List ℕ) → Events m.events w → m.accepting (after m.next t w) ≡ true → ⊥

-- the laws of the operation
pub record Laws (m : Machine) : Type 0 where
  -- the machine moves within its states
  pub initial_in : m.initial < m.states
  pub next_in : (q e : ℕ) → q < m.states → e < m.events → m.next q e < m.states
  -- dump exactly where the target is accepting
  pub dump_accepts : (t : ℕ) → t < m.states → m.operation t ≡ Dump → m.accepting t ≡ true
  pub accepts_dump : (t : ℕ) → t < m.states → m.accepting t ≡ true → m.operation t ≡ Dump
  -- halt only where no accepting state is reached
  pub halt_never : (t : ℕ) → t < m.states → m.operation t ≡ Halt → NeverAccepts m t
  -- from a halting target every move halts
  pub halt_stays : (t e : ℕ) → t < m.states → e < m.events → m.operation t ≡ Halt → m.operation (m.next t e) ≡ Halt

-- halt wherever no accepting state is reached: so it is with one pair, and in joint mode
pub record Sharp (m : Machine) : Type 0 where
  pub never_halts : (t : ℕ) → t < m.states → NeverAccepts m t → m.operation t ≡ Halt
