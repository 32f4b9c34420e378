-- The rules and the marked runs of document 01, and how a run is computed from the definitions.
-- Assumes nothing.
use Rattle.std.specs.Prelude.{ℕ, suc, List, [], ◌∷◌, length, take, replicate}
use Rattle.rule.specs.Drawing.{Drawing, in_mode, state_no, event_no}
use Rattle.rule.specs.declared.Pair.{Pair}
use Rattle.rule.specs.declared.Operation.{Operation}
use Rattle.rule.specs.declared.Operation.TheVariants.{Halt, Store, Dump}
use Rattle.sheet.specs.Layout.{sheet_of}
use Rattle.monitor.specs.Fresh.{start_run}
use Rattle.effects.specs.Effects.{answer_in, memory_in, output_in}
use Rattle.monitor.specs.Event.{turn_of}
use Rattle.effects.specs.declared.Run.{Run}
use Rattle.history.specs.Course.{Entry}
use Rattle.history.specs.History.{log_after, run_after, released_after}

-- a rule with no note that starts at 0
abbrev pub rule : (class states events : ℕ) → (table : List ℕ) → (pairs : List Pair) → Drawing
rule class states events table pairs =
    record {
      shape = record { class = class; states = states; events = events; pairs = length pairs; initial = state_no 0; mode = 0 };
      note = [];
      table = table;
      pairs = pairs;
    }

-- a pair by its sets, bit s for state s
abbrev pub pair : (r p : ℕ) → Pair
pair r p = record { r = r; p = p }

-- setup rule A: 0 backsight, 1 foresight, 2 disturbed
abbrev pub A : Drawing
A = rule 4 3 3 (1 ∷ 2 ∷ 0 ∷ 2 ∷ 0 ∷ 2 ∷ 2 ∷ 2 ∷ 2 ∷ []) (pair 0b001 0 ∷ [])

abbrev pub S : Drawing
S = rule 1 3 2 (1 ∷ 2 ∷ 1 ∷ 1 ∷ 2 ∷ 2 ∷ []) (pair 0 0b011 ∷ [])

abbrev pub G : Drawing
G = rule 2 2 2 (0 ∷ 1 ∷ 1 ∷ 1 ∷ []) (pair 0b10 0 ∷ [])

abbrev pub O : Drawing
O = rule 3 3 3 (1 ∷ 2 ∷ 0 ∷ 1 ∷ 1 ∷ 1 ∷ 2 ∷ 2 ∷ 2 ∷ []) (pair 0b010 0 ∷ pair 0b100 0 ∷ [])

abbrev pub D : Drawing
D = rule 4 2 1 (1 ∷ 1 ∷ []) (pair 0b01 0 ∷ [])

-- rule J, of joint mode (M-105): both pairs accept 0, from which nothing comes back, and 3; from 2 each pair has hope, of 4 and of 5, and both together none
abbrev pub J : Drawing
J =
    in_mode 1
    (rule 3 6 3 (0 ∷ 1 ∷ 2 ∷ 1 ∷ 3 ∷ 2 ∷ 4 ∷ 5 ∷ 2 ∷ 3 ∷ 3 ∷ 3 ∷ 4 ∷ 4 ∷ 4 ∷ 5 ∷ 5 ∷ 5 ∷ [])
    (pair 0b011000 0b000001 ∷ pair 0b101000 0b000001 ∷ []))

-- where a run stands after some calls
pub record Stand : Type 0 where
  pub log : List Entry
  pub released : List ℕ
  pub run : Run
  pub memory : List ℕ

-- eight bytes, for the memory and for each call's output
abbrev pub eight : List ℕ
eight = replicate 8 0

abbrev pub begin : List ℕ → Stand
begin sheet = record { log = []; released = []; run = start_run sheet; memory = eight }

-- one call
unfoldable pub one : List ℕ → Stand → ℕ → Stand
one sheet s e =
    let turn = turn_of sheet s.run (event_no e) s.memory eight in
    let answer = answer_in turn s.run.held in
    record {
      log = log_after answer e s.log;
      released = released_after answer (output_in turn s.run.held e s.memory eight) s.released;
      run = run_after answer s.run;
      memory = memory_in turn s.run.held e s.memory;
    }

-- a call for each event
unfoldable pub all : List ℕ → Stand → List ℕ → Stand
all sheet s [] = s
all sheet s (e ∷ es) = all sheet (one sheet s e) es

-- the place of the first halt in a log, the first being `at`; 0 where there is none
abbrev pub place_by : Operation → ℕ → ℕ → ℕ
place_by Halt at later = at
place_by Store at later = later
place_by Dump at later = later

abbrev pub first_halt : ℕ → List Entry → ℕ
first_halt at [] = 0
first_halt at (x ∷ xs) = place_by x.operation at (first_halt (suc at) xs)

-- what the table says of a run: released, held, and the place of the first halt, or 0
pub record Mark : Type 0 where
  pub released : List ℕ
  pub held : List ℕ
  pub halt : ℕ

unfoldable pub mark_of : Stand → Mark
mark_of s = record { released = s.released; held = take s.run.held s.memory; halt = first_halt 1 s.log }

-- a row of the table: the rule, the events, and what is expected
pub record Row : Type 0 where
  pub rule : Drawing
  pub events : List ℕ
  pub expected : Mark

abbrev pub row : Drawing → (events released held : List ℕ) → (halt : ℕ) → Row
row d events released held halt =
    record { rule = d; events = events; expected = record { released = released; held = held; halt = halt } }

-- the twelve marked runs
abbrev pub marked : List Row
marked =
    row A [] [] [] 0
    ∷ row A (0 ∷ []) [] (0 ∷ []) 0
    ∷ row A (0 ∷ 1 ∷ []) (0 ∷ 1 ∷ []) [] 0
    ∷ row A (0 ∷ 1 ∷ 2 ∷ 0 ∷ 1 ∷ 0 ∷ 2 ∷ []) (0 ∷ 1 ∷ 2 ∷ 0 ∷ 1 ∷ []) (0 ∷ []) 7
    ∷ row A (0 ∷ 1 ∷ 2 ∷ 0 ∷ 1 ∷ 0 ∷ 2 ∷ 0 ∷ []) (0 ∷ 1 ∷ 2 ∷ 0 ∷ 1 ∷ []) (0 ∷ []) 7
    ∷ row A (1 ∷ []) [] [] 1
    ∷ row S (1 ∷ []) [] [] 1
    ∷ row S (0 ∷ 1 ∷ 1 ∷ []) (0 ∷ 1 ∷ 1 ∷ []) [] 0
    ∷ row G (0 ∷ 0 ∷ 1 ∷ 0 ∷ []) (0 ∷ 0 ∷ 1 ∷ 0 ∷ []) [] 0
    ∷ row O (2 ∷ 2 ∷ []) [] (2 ∷ 2 ∷ []) 0
    ∷ row O (0 ∷ []) [] [] 1
    ∷ row D (0 ∷ []) [] [] 1
    ∷ []

-- runs of J: it dumps, stores and dumps; it dumps, stores and halts where mode 0 goes on storing
abbrev pub marked_joint : List Row
marked_joint =
    row J (0 ∷ 1 ∷ 1 ∷ []) (0 ∷ 1 ∷ 1 ∷ []) [] 0
    ∷ row J (0 ∷ 1 ∷ 2 ∷ []) (0 ∷ []) (1 ∷ []) 3
    ∷ row J (0 ∷ 1 ∷ 2 ∷ 1 ∷ []) (0 ∷ []) (1 ∷ []) 3
    ∷ row (in_mode 0 J) (0 ∷ 1 ∷ 2 ∷ []) (0 ∷ []) (1 ∷ 2 ∷ []) 0
    ∷ []

-- what each row's run comes to, on the sheet made from its rule, and what is expected
unfoldable pub found : List Row → List Mark
found [] = []
found (x ∷ xs) = let sheet = sheet_of x.rule in mark_of (all sheet (begin sheet) x.events) ∷ found xs

unfoldable pub wanted : List Row → List Mark
wanted [] = []
wanted (x ∷ xs) = x.expected ∷ wanted xs
