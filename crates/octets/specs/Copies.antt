-- What a copy leaves.
-- Assumes nothing.
use Rattle.std.specs.Prelude.{ℕ, List, ◌++◌, length, take, drop}

-- `to` with `from` at its front, or as much of it as there is room for
unfoldable pub copied : List ℕ → List ℕ → List ℕ
copied from to = take (length to) from ++ drop (length from) to
