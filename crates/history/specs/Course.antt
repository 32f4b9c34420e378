-- A course: a machine's monitor over a sequence of taken codes, with what has been released and what is held. What demand 3 says of one.
-- Assumes nothing.
use Rattle.std.specs.Prelude.{ℕ, ◌≤◌, ◌<◌, ◌≡◌, true, List, [], ◌∷◌, ◌++◌, length}
use Rattle.rule.specs.Acceptance.{Hopeless}
use Rattle.rule.specs.Machine.{Machine, accepts_by}
use Rattle.rule.specs.declared.Operation.{Operation}
use Rattle.rule.specs.declared.Operation.TheVariants.{Halt, Store, Dump}
-- an event that was taken, and the codes of a log
pub use Rattle.monitor.specs.Evening.{Entry, codes}

-- the codes taken before the first halt
abbrev pub until_halt : Operation → ℕ → List ℕ → List ℕ
until_halt Halt e es = []
until_halt Store e es = e ∷ es
until_halt Dump e es = e ∷ es

abbrev pub before_halt : List Entry → List ℕ
before_halt [] = []
before_halt (x ∷ xs) = until_halt x.operation x.code (before_halt xs)

-- what an operation does: the codes released so far, and the codes held
abbrev pub released_by : Operation → (released held : List ℕ) → ℕ → List ℕ
released_by Halt released held e = released
released_by Store released held e = released
released_by Dump released held e = released ++ (held ++ e ∷ [])

abbrev pub held_by : Operation → (held : List ℕ) → ℕ → List ℕ
held_by Halt held e = held
held_by Store held e = held ++ e ∷ []
held_by Dump held e = []

-- the courses of a machine: the log, what was released, what is held, and the state
pub data Course (m : Machine) : (log : List Entry) (released held : List ℕ) (q : ℕ) → Type 0 where
  start : Course m [] [] [] m.initial
  step : {log : List Entry} {released held : List ℕ} {q : ℕ} → Course m log released held q → (e : ℕ) → e < m.events
      → Course m (log ++ record { code = e; operation = m.operation (m.next q e) } ∷ [])
      (released_by (m.operation (m.next q e)) released held e) (held_by (m.operation (m.next q e)) held e) (m.next q e)

-- `released` is the longest beginning of `taken` that is accepted
pub record Longest (m : Machine) (taken released : List ℕ) : Type 0 where
  pub rest : List ℕ
  pub beginning : taken ≡ released ++ rest
  pub accepted : accepts_by m released ≡ true
  pub longest : (p s : List ℕ) → taken ≡ p ++ s → accepts_by m p ≡ true → length p ≤ length released

-- demand 3: what was released is the longest beginning that is accepted; released then held is everything taken before the first halt;
-- it halts only where neither what was taken nor anything longer could be accepted
pub record Kept (m : Machine) (log : List Entry) (released held : List ℕ) : Type 0 where
  pub longest : Longest m (codes log) released
  pub whole : released ++ held ≡ before_halt log
  pub halts_only : (before rest : List Entry) (e : ℕ) → log ≡ before ++ record { code = e; operation = Halt } ∷ rest
      → Hopeless m.events (accepts_by m) (codes before ++ e ∷ [])

-- and it halts at every such point
pub record KeptSharp (m : Machine) (log : List Entry) : Type 0 where
  pub halts_at_each : (before rest : List Entry) (x : Entry) → log ≡ before ++ x ∷ rest
      → Hopeless m.events (accepts_by m) (codes before ++ x.code ∷ []) → x.operation ≡ Halt
