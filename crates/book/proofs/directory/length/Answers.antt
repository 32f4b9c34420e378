-- `length` meets its contract. Assumes nothing.
use native.Mathlib.Omega.{arith}
use Rattle.book.specs.Directory.{length_at}
use Rattle.book.proofs.DirectoryLaws.{part_is}
use Rattle.book.proofs.directory.length.Goals as goal

pub returns : goal.returns
unfolding length_at
returns c = part_is c.args.entry.now c.fits-entry 2 2 (omega arith) (omega arith) c.number.ensures
