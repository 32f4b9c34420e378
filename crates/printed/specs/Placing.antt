-- Bytes that are put into an output from some place on: what the writers of text promise one another.
-- Assumes nothing.
use Rattle.std.specs.Prelude.{ℕ, ◌+◌, ◌≤◌, min, ◌≡◌, List, length}
use Rattle.std.proofs.lemmas.List.Edits.{sets}

-- the last place that there is: counting goes no further
abbrev pub last_place : ℕ
last_place = 18446744073709551615

-- the output with the bytes stored from `at` on, as far as it goes, and every other byte as it was
unfoldable pub laid : List ℕ → ℕ → List ℕ → List ℕ
laid out at bytes = sets out at bytes

-- the bytes are put into the output from `at` on, and `next` is the place after them; no output reaches past the last place
pub record Put (out : List ℕ) (at : ℕ) (bytes : List ℕ) (next : ℕ) (out' : List ℕ) : Type 0 where
  pub short : length out ≤ last_place
  pub place : next ≡ min (at + length bytes) last_place
  pub output : out' ≡ laid out at bytes
