-- What the writers of lines put: the end of a cell, the stopping states one by one, and the text from what was found of a file.
-- Assumes nothing.
use Rattle.std.specs.Prelude.{ℕ, Bool, true, false, cond, List, [], ◌∷◌, ◌++◌, Ok, Err, Result}
use Rattle.rule.specs.Reach.{target}
use Rattle.rule.specs.Refusals.{told_of}
use Rattle.rule.specs.declared.Operation.{Operation}
use Rattle.rule.specs.declared.Operation.TheVariants.{Halt, Store, Dump}
use Rattle.rule.specs.declared.Refusal.{Refusal}
use Rattle.operations.specs.Marks.{operation_in}
use Rattle.operations.specs.declared.Marks.{Marks}
use Rattle.printed.specs.declared.lines.Page.{Page}
use Rattle.printed.specs.Text.{decimal}
use Rattle.printed.specs.Printing.{operation_word, header, cell_lines, stop_line, refusal_line}

-- the end of a cell's line: the operation's word after a space, and byte 10
abbrev pub cell_end : Operation → List ℕ
cell_end operation = 32 ∷ (operation_word operation ++ (10 ∷ []))

-- whether an operation is halt: a state is stopping where a move into it halts
abbrev pub halts : Operation → Bool
halts Halt = true
halts Store = false
halts Dump = false

-- whether a move into t halts, by the two sets of states
unfoldable pub halts_into : Marks → ℕ → Bool
halts_into marks t = halts (operation_in marks t)

-- state q after a space where it stops, or nothing
unfoldable pub stop_at : (ℕ → Bool) → ℕ → List ℕ
stop_at stopping q = cond (stopping q) (32 ∷ decimal q) []

-- the text of a page: the shape and the moves of a rule, and the operation of a move into each state
abbrev pub page_text : Page → List ℕ
page_text p =
    let m = p.moves in
    header p.shape
    ++ (cell_lines (target m.table.now m.events) (operation_in p.marks) m.events m.states ++ stop_line (halts_into p.marks) m.states)

-- the text of what was found of a file
abbrev pub text_from : Result Page Refusal → List ℕ
text_from (Ok p) = page_text p
text_from (Err r) = refusal_line (told_of r)
