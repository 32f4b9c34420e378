-- Laws of copies.
-- Assumes nothing.
use mathlib.Core.Path.{◌≡◌, ◌∙◌}
use mathlib.Core.List.{List, ◌++◌, append-nil}
use Prim.Native.Nat.{ℕ, ◌≤◌, min}
use native.Mathlib.Decide.{dec_le}
use native.Mathlib.Omega.{arith}
use lib.ListN.{length, take, drop, drop_of_length-le}
use lib.Seq.{take_all}
use Rattle.octets.specs.Copies.{copied}

-- as far as there is room and there is something to copy
pub copied_at : (from to : List ℕ) (n : ℕ) → n ≡ min (length from) (length to) → take n from ++ drop n to ≡ copied from to
unfolding copied
copied_at from to n e =
    elim (dec_le (length from) (length to)) [
      | yes h ↦
          let m : n ≡ length from = omega arith in
          rw (m, take_all (length to) from h, take_all (length from) from (omega arith))
      | no h ↦
          let m : n ≡ length to = omega arith in
          rw (m, drop_of_length-le to {i = length from} (omega arith), drop_of_length-le to {i = length to} (omega arith))
    ]

-- where all of it has room
pub copied_whole : (from to : List ℕ) → length from ≤ length to → copied from to ≡ from ++ drop (length from) to
unfolding copied
copied_whole from to h = rw (take_all (length to) from h)

-- where it fills all
pub copied_full : (from to : List ℕ) → length from ≡ length to → copied from to ≡ from
copied_full from to e =
    copied_whole from to (omega arith) ∙ rw (drop_of_length-le to {i = length from} (omega arith)) (append-nil from)
