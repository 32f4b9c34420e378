-- What an operation does: to the run state, to the memory and to the output.
-- Assumes nothing.
use Rattle.std.specs.Prelude.{ℕ, ◌+◌, ◌≤◌, ◌<◌, ◌≡◌, cond, List, [], ◌∷◌, ◌++◌, length, take, drop, set, leb, Option, None, Some, Result, Ok, Err}
use Rattle.rule.specs.Refusals.{tell, told_of}
use Rattle.rule.specs.declared.Told.{Told}
use Rattle.rule.specs.declared.StateNo.{StateNo}
use Rattle.rule.specs.declared.EventNo.{EventNo}
use Rattle.rule.specs.declared.Operation.{Operation}
use Rattle.rule.specs.declared.Operation.TheVariants.{Halt, Store, Dump}
use Rattle.rule.specs.declared.Refusal.{Refusal}
use Rattle.rule.specs.declared.Refusal.TheVariants.{Memory, Room}
use Rattle.effects.specs.declared.Run.{Run}
use Rattle.effects.specs.declared.Move.{Move}
use Rattle.effects.specs.declared.Taken.{Taken}
use Rattle.rule.specs.Given.{Table, NoRows, After}

-- a run at a state with nothing held
abbrev pub fresh_run : StateNo → Run
fresh_run s = record { state = s; held = 0 }

-- what one event comes to before the buffers are touched: a move; nothing, where it is not the rule's business; or a refusal
abbrev pub Turn : Type 0
Turn = Result (Option Move) Refusal

-- what one event is answered: it was taken; or it was ignored, or refused, and nothing changed
abbrev pub Answer : Type 0
Answer = Result (Option Taken) Refusal

-- a turn that moves
abbrev pub move : Operation → StateNo → Turn
move o t = Ok (Some (record { operation = o; next = t }))

-- 15: operation is store and the memory is full; 16: dump with held + 1 over the output's length
abbrev pub store_turn : (next : StateNo) → (held room : ℕ) → Turn
store_turn next held room = cond (leb room held) (Err Memory) (move Store next)

abbrev pub dump_turn : (next : StateNo) → (held space : ℕ) → Turn
dump_turn next held space = cond (leb space held) (Err Room) (move Dump next)

-- a move, and a turn, where there is room for it
abbrev pub room_move : Operation → StateNo → (held room space : ℕ) → Turn
room_move Halt t held room space = move Halt t
room_move Store t held room space = store_turn t held room
room_move Dump t held room space = dump_turn t held space

abbrev pub room_turn : Turn → (held room space : ℕ) → Turn
room_turn (Err r) held room space = Err r
room_turn (Ok None) held room space = Ok None
room_turn (Ok (Some m)) held room space = room_move m.operation m.next held room space

-- an event that is taken: a halted event is not held and a stored one is; a dump releases held + 1 and leaves nothing held
abbrev pub taken_by : Operation → StateNo → (held : ℕ) → Taken
taken_by Halt t held = record { operation = Halt; run = record { state = t; held = held }; released = 0 }
taken_by Store t held = record { operation = Store; run = record { state = t; held = held + 1 }; released = 0 }
taken_by Dump t held = record { operation = Dump; run = fresh_run t; released = held + 1 }

-- the answer; an ignored event has no run state
abbrev pub answer_in : Turn → (held : ℕ) → Answer
answer_in (Err r) held = Err r
answer_in (Ok None) held = Ok None
answer_in (Ok (Some m)) held = Ok (Some (taken_by m.operation m.next held))

-- the answer of a call that ignores no event
abbrev pub answered : Result Taken Refusal → Answer
answered (Ok t) = Ok (Some t)
answered (Err r) = Err r

-- what an answer tells: 0 where the event was taken or ignored, else the refusal's number and places
abbrev pub answer_told : {A : Type 0} → Result A Refusal → Told
answer_told (Ok a) = tell 0 0 0
answer_told (Err r) = told_of r

-- the memory after it: store writes one byte, at the place after the held ones
abbrev pub memory_by : Operation → (held code : ℕ) → (memory : List ℕ) → List ℕ
memory_by Halt held code memory = memory
memory_by Store held code memory = set memory held code
memory_by Dump held code memory = memory

abbrev pub memory_in : Turn → (held code : ℕ) → (memory : List ℕ) → List ℕ
memory_in (Err r) held code memory = memory
memory_in (Ok None) held code memory = memory
memory_in (Ok (Some m)) held code memory = memory_by m.operation held code memory

-- the output after it: dump writes the held events and then this one, from the front
abbrev pub output_by : Operation → (held code : ℕ) → (memory output : List ℕ) → List ℕ
output_by Halt held code memory output = output
output_by Store held code memory output = output
output_by Dump held code memory output = (take held memory ++ (code ∷ [])) ++ drop (held + 1) output

abbrev pub output_in : Turn → (held code : ℕ) → (memory output : List ℕ) → List ℕ
output_in (Err r) held code memory output = output
output_in (Ok None) held code memory output = output
output_in (Ok (Some m)) held code memory output = output_by m.operation held code memory output

-- what a turn promises: the whole answer, and the whole of the memory and the output after it
pub record TurnPromise (turn : Turn) (run : Run) (e : EventNo) (memory output : List ℕ) (r : Answer) (memory' output' : List ℕ) : Type 0 where
  pub answer : r ≡ answer_in turn run.held
  pub memory_after : memory' ≡ memory_in turn run.held e.0 memory
  pub output_after : output' ≡ output_in turn run.held e.0 memory output

-- what a store promises: the whole answer, and the whole of the memory after it
pub record StorePromise (next : StateNo) (run : Run) (e : EventNo) (memory : List ℕ) (r : Result Taken Refusal) (memory' : List ℕ) : Type 0 where
  pub answer : answered r ≡ answer_in (store_turn next run.held (length memory)) run.held
  pub memory_after : memory' ≡ memory_in (store_turn next run.held (length memory)) run.held e.0 memory

-- what a dump of the held events promises: the whole answer, and the whole of the output after it
pub record DumpPromise (next : StateNo) (held : List ℕ) (e : EventNo) (output : List ℕ) (r : Result Taken Refusal) (output' : List ℕ) : Type 0 where
  pub answer : answered r ≡ answer_in (dump_turn next (length held) (length output)) (length held)
  pub output_after : output' ≡ output_in (dump_turn next (length held) (length output)) (length held) e.0 held output

-- the tables of the two: a store gives 15 where the memory is full, a dump 16 where held + 1 is over the output's length
abbrev pub store_order : List ℕ
store_order = 15 ∷ []

abbrev pub StoreTable : (held room : ℕ) → Table
StoreTable held room = After NoRows 15 Memory (room ≤ held)

abbrev pub dump_order : List ℕ
dump_order = 16 ∷ []

abbrev pub DumpTable : (held space : ℕ) → Table
DumpTable held space = After NoRows 16 Room (space < held + 1)

-- exactly one answer, with exactly one content of the memory and the output, keeps the promise
pub record OneAnswer {A : Type 0} (Promise : A → List ℕ → List ℕ → Type 0) : Type 0 where
  pub answer : A
  pub memory : List ℕ
  pub output : List ℕ
  pub kept : Promise answer memory output
  pub only : (r : A) (m out : List ℕ) → Promise r m out → (r ≡ answer) × (m ≡ memory) × (out ≡ output)
