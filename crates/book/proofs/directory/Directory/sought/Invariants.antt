-- What `sought` keeps at each turn: what is found from here is what is found from the start. Assumes nothing.
use Prim.Native.Nat.{◌≤◌}
use mathlib.Core.Path.{◌≡◌}
use lib.ListN.{length, take}
use Rattle.book.specs.Finding.{seek, newest_of, sought_in}
use Rattle.book.proofs.SeekLaws.{ended}
use Rattle.book.proofs.directory.Directory.sought.Given as goal

abbrev pub invariant-loop-entry : goal.invariant-loop-entry
invariant-loop-entry l =
    let rest = l.entry-iterator.iter.rest.now in
    (l.older ≤ l.age) × (take (length rest) l.self.entries.now ≡ rest)
    × (seek l.number l.older (ended l.older l.age) (newest_of l.self.book.now l.self.start (length rest)) ≡ sought_in l.self.book.now l.number l.age)
