-- Refusal 11 in plain words: "given exactly when" of the paper's table, and what a sheet is that is not refused.
-- Assumes nothing.
use Rattle.std.specs.Prelude.{ℕ, ◌+◌, ◌*◌, ◌≤◌, ◌<◌, ◌≡◌, List, length}
use Rattle.rule.specs.Range.{rule_limits, InRange, OutOfRange}
use Rattle.sheet.specs.Layout.{end_size, mark, back, whole_size}

-- 11: under 6 bytes, mark not 77, N or K out of range, initial state >= N, or distance and length not both N*K + 6
pub data BadSheet (l : List ℕ) : Type 0 where
  short : length l < end_size → BadSheet l
  unmarked : (back l 3 ≡ mark → ⊥) → BadSheet l
  out_of_range : OutOfRange rule_limits (back l 6) (back l 5) (back l 4) → BadSheet l
  wrong_distance : (back l 2 + 256 * back l 1 ≡ whole_size l → ⊥) → BadSheet l
  wrong_length : (length l ≡ whole_size l → ⊥) → BadSheet l

-- none of these
pub record GoodSheet (l : List ℕ) : Type 0 where
  pub long : end_size ≤ length l
  pub marked : back l 3 ≡ mark
  pub is_in_range : InRange rule_limits (back l 6) (back l 5) (back l 4)
  pub distance : back l 2 + 256 * back l 1 ≡ whole_size l
  pub size : length l ≡ whole_size l
