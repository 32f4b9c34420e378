-- What a writer of text promises: it puts bytes into its output after those that it has put.
-- Assumes nothing.
use Rattle.std.specs.Prelude.{◌≡◌, ℕ, List}
use Rattle.printed.specs.Placing.{Put}
use Rattle.printed.specs.declared.text.Text.{Text}

-- the bytes are put into the same output from its place on
pub record Puts (old new : Text) (bytes : List ℕ) : Type 0 where
  pub same : new.out.ghost_name ≡ old.out.ghost_name
  pub put : Put old.out.now old.at bytes new.at new.out.now
