-- When a sheet opens, and what with.
-- Assumes nothing.
use Rattle.std.specs.Prelude.{ℕ, ◌+◌, ◌*◌, Bool, cond, ◌&&◌, List, length, Result, Ok, Err, leb, eqb}
use Rattle.rule.specs.Refusals.{tell, told_of}
use Rattle.rule.specs.declared.Told.{Told}
use Rattle.rule.specs.declared.Refusal.{Refusal}
use Rattle.rule.specs.declared.Refusal.TheVariants.{Sheet}
use Rattle.rule.specs.Range.{rule_limits, in_range}
use Rattle.sheet.specs.Layout.{end_size, mark, back, head_in, whole_size}
use Rattle.sheet.specs.declared.Head.{Head}

-- not 11: 6 bytes at least, the mark 77, N, K and the initial state in range, distance and length both N*K + 6
unfoldable pub opens : List ℕ → Bool
opens l =
    leb end_size (length l) && (eqb (back l 3) mark && (in_range rule_limits (back l 6) (back l 5) (back l 4)
    && (eqb (back l 2 + 256 * back l 1) (whole_size l) && eqb (length l) (whole_size l))))

-- what opening comes to: the head, or 11
abbrev pub Opened : Type 0
Opened = Result Head Refusal

unfoldable pub opened_of : List ℕ → Opened
opened_of l = cond (opens l) (Ok (head_in l)) (Err Sheet)

-- what opening tells: 0 where the sheet opens, else 11
abbrev pub opened_told : Opened → Told
opened_told (Ok h) = tell 0 0 0
opened_told (Err r) = told_of r
