-- The printed monitor of a rule file.
-- Assumes nothing.
use Rattle.std.specs.Prelude.{ℕ, zero, suc, Bool, cond, List, [], ◌∷◌, ◌++◌, length, Ok, Err}
use Rattle.rule.specs.Drawing.{Drawing, states, events, next}
use Rattle.rule.specs.Operations.{operation_at}
use Rattle.rule.specs.Stopping.{stopping}
use Rattle.rule.specs.Refusals.{told_of}
use Rattle.rule.specs.declared.Operation.{Operation}
use Rattle.rule.specs.declared.Operation.TheVariants.{Halt, Store, Dump}
use Rattle.rule.specs.declared.Shape.{Shape}
use Rattle.rule.specs.declared.Told.{Told}
use Rattle.rulefile.specs.Layout.{drawing_in, flat_up_to}
use Rattle.rulefile.specs.Reading.{verdict_on}
use Rattle.rule.specs.Putting.{PutPromise}
use Rattle.printed.specs.Text.{decimal, line}
use Rattle.rule.specs.Given.{Table, NoRows}
use Rattle.rule.specs.Putting.{Put as Puts, put_order}
use Rattle.rule.specs.Verdict.{Verdict, Written}

-- the words rule, stop, refused, -
abbrev pub rule_word : List ℕ
rule_word = 114 ∷ 117 ∷ 108 ∷ 101 ∷ []

abbrev pub stop_word : List ℕ
stop_word = 115 ∷ 116 ∷ 111 ∷ 112 ∷ []

abbrev pub refused_word : List ℕ
refused_word = 114 ∷ 101 ∷ 102 ∷ 117 ∷ 115 ∷ 101 ∷ 100 ∷ []

abbrev pub none_word : List ℕ
none_word = 45 ∷ []

-- the words halt, store, dump
abbrev pub operation_word : Operation → List ℕ
operation_word Halt = 104 ∷ 97 ∷ 108 ∷ 116 ∷ []
operation_word Store = 115 ∷ 116 ∷ 111 ∷ 114 ∷ 101 ∷ []
operation_word Dump = 100 ∷ 117 ∷ 109 ∷ 112 ∷ []

-- header: class, N, K, m, initial state
unfoldable pub header : Shape → List ℕ
header s = line rule_word (decimal s.class ∷ decimal s.states ∷ decimal s.events ∷ decimal s.pairs ∷ decimal s.initial.0 ∷ [])

-- a cell: state, event, next state, operation
unfoldable pub cell_line : ℕ → ℕ → ℕ → Operation → List ℕ
cell_line s e t operation = line (decimal s) (decimal e ∷ decimal t ∷ operation_word operation ∷ [])

-- the cell of state s at event e
unfoldable pub cell_of : (ℕ → ℕ → ℕ) → (ℕ → Operation) → ℕ → ℕ → List ℕ
cell_of next operation s e = cell_line s e (next s e) (operation (next s e))

-- the cells of state s at the k events
unfoldable pub row_lines : (ℕ → ℕ → ℕ) → (ℕ → Operation) → ℕ → ℕ → List ℕ
row_lines next operation k s = flat_up_to (cell_of next operation s) k

-- the cells of the n states, row by row
unfoldable pub cell_lines : (ℕ → ℕ → ℕ) → (ℕ → Operation) → ℕ → ℕ → List ℕ
cell_lines next operation k n = flat_up_to (row_lines next operation k) n

-- the numbers below n that have a property, rising
unfoldable pub those_below : (ℕ → Bool) → ℕ → List (List ℕ)
those_below has zero = []
those_below has (suc q) = those_below has q ++ cond (has q) (decimal q ∷ []) []

-- or - where there is none
abbrev pub or_none : List (List ℕ) → List (List ℕ)
or_none [] = none_word ∷ []
or_none (w ∷ ws) = w ∷ ws

-- last: the stopping states among the n
unfoldable pub stop_line : (ℕ → Bool) → ℕ → List ℕ
stop_line stopping n = line stop_word (or_none (those_below stopping n))

-- the monitor of a drawing
unfoldable pub monitor_text : Drawing → List ℕ
monitor_text d =
    header d.shape ++ (cell_lines (next d) (operation_at d) (events d) (states d) ++ stop_line (stopping d) (states d))

-- a refusal: only its number and places
unfoldable pub refusal_line : Told → List ℕ
refusal_line t = line refused_word (decimal t.number ∷ decimal t.a ∷ decimal t.b ∷ [])

abbrev pub text_by : Verdict → Drawing → List ℕ
text_by (Ok _) d = monitor_text d
text_by (Err r) d = refusal_line (told_of r)

-- what is printed of a file
unfoldable pub text_of : List ℕ → List ℕ
text_of f = text_by (verdict_on f) (drawing_in f)

-- an output of so many bytes has room for every text
abbrev pub text_max : ℕ
text_max = 32768

-- the promise of printing: the text at the front of the output and every other byte as it was, or 16 and the output as it was where it does not fit
abbrev pub PrintPromise : List ℕ → List ℕ → Written → List ℕ → Type 0
PrintPromise f out w out' = PutPromise (Ok tt) (text_of f) out w out'

-- it looks at nothing else: 16 where the text does not fit
abbrev pub Printing : List ℕ → ℕ → Table
Printing f room = Puts NoRows (length (text_of f)) room

abbrev pub printing_order : List ℕ
printing_order = put_order []
