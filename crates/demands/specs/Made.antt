-- A sheet made by this build.
-- Assumes nothing.
use Rattle.std.specs.Prelude.{ℕ, ◌≡◌, List, take, Ok}
use Rattle.making.specs.Making.{MakePromise}

-- the sheet stands at the front of an output after a call of `make` on the file that was done
pub record Made (file sheet : List ℕ) : Type 0 where
  pub out : List ℕ
  pub out' : List ℕ
  pub size : ℕ
  pub promise : MakePromise file out (Ok size) out'
  pub front : sheet ≡ take size out'
