-- The layout of a sheet: a cell for each table entry, in the table's order, and six bytes that point back.
-- Assumes nothing.
use Rattle.std.specs.Prelude.{ℕ, ◌+◌, ◌-◌, ◌*◌, cond, List, ◌∷◌, ◌++◌, map, length, get_or, eqb}
use Rattle.octets.specs.Numbers.{digits}
use Rattle.rule.specs.Reach.{place_of}
use Rattle.rule.specs.Drawing.{Drawing, state_no}
use Rattle.rule.specs.Operations.{mark_of, operation_at}
use Rattle.rule.specs.declared.Operation.{Operation}
use Rattle.rule.specs.declared.Operation.TheVariants.{Halt, Store, Dump}
use Rattle.rule.specs.declared.Shape.{Shape}
use Rattle.sheet.specs.declared.Head.{Head}

-- the bytes after the cells, and the mark among them
abbrev pub end_size : ℕ
end_size = 6

abbrev pub mark : ℕ
mark = 77

-- the cell of a move into t: next state + 64 * operation
abbrev pub cell_of : Drawing → ℕ → ℕ
cell_of d t = t + 64 * mark_of (operation_at d t)

-- N, K, initial state, 77, and the distance back to the first cell
abbrev pub end_of : Shape → List ℕ
end_of s = s.states ∷ s.events ∷ s.initial.0 ∷ mark ∷ digits 2 (s.states * s.events + end_size)

-- the sheet of a drawing
unfoldable pub sheet_of : Drawing → List ℕ
sheet_of d = map (cell_of d) d.table ++ end_of d.shape

-- the byte k places before the end of some bytes; N, K and the initial state, as the last six have them; N*K + 6
abbrev pub back : List ℕ → ℕ → ℕ
back l k = get_or l (length l - k) 0

abbrev pub head_in : List ℕ → Head
head_in l = record { states = back l 6; events = back l 5; initial = state_no (back l 4) }

abbrev pub whole_size : List ℕ → ℕ
whole_size l = back l 6 * back l 5 + end_size

-- the cell of a state and an event; the operation with a number below 3
abbrev pub cell_in : Head → (sheet : List ℕ) → (s e : ℕ) → ℕ
cell_in h sheet s e = get_or sheet (place_of h.events s e) 0

abbrev pub operation_of : ℕ → Operation
operation_of mark = cond (eqb mark 0) Halt (cond (eqb mark 1) Store Dump)
