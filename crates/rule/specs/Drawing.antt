-- The rule as it is drawn. All that the paper says of a rule is said of drawings; a rule by value and a rule file each have one.
-- Assumes nothing.
use Rattle.std.specs.Prelude.{ℕ, ◌-◌, ◌*◌, ◌≡◌, Bool, List, [], ◌++◌, eqb, length, get_or, take, replicate}
use Rattle.rule.specs.Reach.{target}
use Rattle.rule.specs.declared.StateNo.{StateNo}
use Rattle.rule.specs.declared.EventNo.{EventNo}
use Rattle.rule.specs.declared.Pair.{Pair}
use Rattle.rule.specs.declared.Shape.{Shape}
use Rattle.rule.specs.declared.Rule.{Rule}
use Rattle.rule.specs.declared.Body.{Body}

-- a state's number and an event's code as the types that keep them apart
abbrev pub state_no : ℕ → StateNo
state_no s = record { 0 = s }

abbrev pub event_no : ℕ → EventNo
event_no e = record { 0 = e }

-- a drawing: class, N, K, m, initial state and mode; the note; the table, row by state, then by event; the accepting pairs
pub record Drawing : Type 0 where
  pub shape : Shape
  pub note : List ℕ
  pub table : List ℕ
  pub pairs : List Pair

-- N, K and m
abbrev pub states : Drawing → ℕ
states d = d.shape.states

abbrev pub events : Drawing → ℕ
events d = d.shape.events

abbrev pub count : Drawing → ℕ
count d = d.shape.pairs

abbrev pub initial : Drawing → ℕ
initial d = d.shape.initial.0

-- the mode is joint: 1; any other is as document 01 has it, and only 0 passes check 3
abbrev pub joint : Drawing → Bool
joint d = eqb d.shape.mode 1

-- the drawing in another mode
abbrev pub in_mode : ℕ → Drawing → Drawing
in_mode mode d =
    record {
      shape =
          record {
            class = d.shape.class;
            states = states d;
            events = events d;
            pairs = count d;
            initial = d.shape.initial;
            mode = mode;
          };
      note = d.note;
      table = d.table;
      pairs = d.pairs;
    }

-- the next state of every state for every event
abbrev pub next : Drawing → ℕ → ℕ → ℕ
next d s e = target d.table (events d) s e

-- the pair with both sets empty
abbrev pub no_pair : Pair
no_pair = record { r = 0; p = 0 }

-- pair i
abbrev pub pair_at : Drawing → ℕ → Pair
pair_at d i = get_or d.pairs i no_pair

-- the drawing of a rule by value
unfoldable pub drawn : Rule → Drawing
drawn r =
    record {
      shape = r.shape;
      note = take r.length r.note;
      table = take (r.shape.states * r.shape.events) r.table;
      pairs = take r.shape.pairs r.pairs;
    }

-- the drawing with no note that has a shape, a table, and the first m of some pairs
abbrev pub body : Shape → List ℕ → List Pair → Drawing
body s table pairs = record { shape = s; note = []; table = table; pairs = take s.pairs pairs }

-- the drawing of a rule that is lent
abbrev pub drawing_of : Body → Drawing
drawing_of b = body b.shape b.table.now b.pairs.now

-- two rules are the same when their drawings are equal
abbrev pub Same : Rule → Rule → Type 0
Same a b = drawn a ≡ drawn b

-- l, and then x until there are n in all
unfoldable pub padded : {A : Type 0} → ℕ → A → List A → List A
padded n x l = l ++ replicate (n - length l) x

-- a drawing as a rule by value, with 0 in all unused places
unfoldable pub rule_of : Drawing → Rule
rule_of d =
    record {
      shape = d.shape;
      length = length d.note;
      note = padded 1024 0 d.note;
      table = padded 2048 0 d.table;
      pairs = padded 8 no_pair d.pairs;
    }
