-- What a fresh start comes to.
-- Assumes nothing.
use Rattle.std.specs.Prelude.{ℕ, List, Result, Ok, Err}
use Rattle.std.specs.Result.{result_unwrap_or}
use Rattle.rule.specs.Drawing.{state_no}
use Rattle.rule.specs.declared.Refusal.{Refusal}
use Rattle.sheet.specs.Opening.{Opened, opened_of}
use Rattle.effects.specs.Effects.{fresh_run}
use Rattle.effects.specs.declared.Run.{Run}

-- at the initial state of an opened sheet, or refused as the sheet is: 11
abbrev pub start_by : Opened → Result Run Refusal
start_by (Ok h) = Ok (fresh_run h.initial)
start_by (Err x) = Err x

abbrev pub start_of : List ℕ → Result Run Refusal
start_of sheet = start_by (opened_of sheet)

-- the run that it gives; where it is refused, one at state 0 with nothing held
abbrev pub start_run : List ℕ → Run
start_run sheet = result_unwrap_or (start_of sheet) (fresh_run (state_no 0))
