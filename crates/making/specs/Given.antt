-- The rows of the paper's table for making a sheet.
-- Assumes nothing.
use Rattle.std.specs.Prelude.{ℕ, List, length}
use Rattle.rule.specs.Given.{Table}
use Rattle.rule.specs.Putting.{Put, put_order}
use Rattle.rulefile.specs.Given.{Reading, reading_order}
use Rattle.rulefile.specs.Layout.{drawing_in}
use Rattle.sheet.specs.Layout.{sheet_of}

-- making a sheet gives what reading gives, and then 16
abbrev pub making_order : List ℕ
making_order = put_order reading_order

abbrev pub Making : List ℕ → ℕ → Table
Making f room = Put (Reading f) (length (sheet_of (drawing_in f))) room
