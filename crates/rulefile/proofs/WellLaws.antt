-- What is drawn in a sound file is in range and well drawn.
-- Assumes nothing.
use Prim.Native.Nat.{ℕ, ◌*◌}
use mathlib.Core.Path.{◌≡◌}
use mathlib.Core.List.{List}
use lib.ListN.{length}
use Rattle.rule.specs.Drawing.{states, events, count}
use Rattle.rule.specs.Range.{Shaped}
use Rattle.rule.specs.WellDrawn.{WellDrawn}
use Rattle.rule.proofs.ClassLaws.{well_drawn}
use Rattle.rulefile.specs.Layout.{drawing_in}
use Rattle.rulefile.proofs.PartsLaws.{SoundFile, table_drawn, pairs_drawn}

module _ (f : List ℕ) (s : SoundFile f) where
  -- its shape passes the checks 2 and 3
  pub file_shaped : Shaped (drawing_in f).shape
  unfolding drawing_in
  file_shaped = record { classed = s.classed; ranged = s.ranged }

  -- its table has N*K entries, and there are m pairs
  pub file_table : length (drawing_in f).table ≡ states (drawing_in f) * events (drawing_in f)
  unfolding drawing_in
  file_table = table_drawn f s

  pub file_pairs : length (drawing_in f).pairs ≡ count (drawing_in f)
  unfolding drawing_in
  file_pairs = pairs_drawn f s

  pub file_well : WellDrawn (drawing_in f)
  file_well = well_drawn (drawing_in f) file_pairs file_shaped s.sound
