-- What making a sheet from a rule file promises.
-- Assumes nothing.
use Rattle.std.specs.Prelude.{ℕ, List}
use Rattle.rulefile.specs.Layout.{drawing_in}
use Rattle.sheet.specs.Layout.{sheet_of}
use Rattle.rulefile.specs.Reading.{verdict_on}
use Rattle.rule.specs.Putting.{PutPromise}
use Rattle.rule.specs.Verdict.{Written}

-- the promise of making a sheet from a rule file
abbrev pub MakePromise : List ℕ → List ℕ → Written → List ℕ → Type 0
MakePromise f out w out' = PutPromise (verdict_on f) (sheet_of (drawing_in f)) out w out'
