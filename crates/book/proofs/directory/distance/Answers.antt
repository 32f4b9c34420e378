-- `distance` meets its contract. Assumes nothing.
use native.Mathlib.Omega.{arith}
use Rattle.book.specs.Directory.{distance_at}
use Rattle.book.proofs.DirectoryLaws.{part_is}
use Rattle.book.proofs.directory.distance.Goals as goal

pub returns : goal.returns
unfolding distance_at
returns c = part_is c.args.entry.now c.fits-entry 4 4 (omega arith) (omega arith) c.number.ensures
