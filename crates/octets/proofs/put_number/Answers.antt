-- `octets::put_number` meets its contract. Assumes nothing.
use borrow.Author.Rules.{rules}
use native.Mathlib.Omega.{arith}
use Rattle.octets.proofs.NumberLaws.{digits_kept, digits_all}
use Rattle.octets.proofs.put_number.Goals as goal

pub loop-byte-preserved : goal.loop-byte-preserved
loop-byte-preserved c = search (rules, digits_kept)

pub returns : goal.returns
returns c =
    let l = c.loop-byte in
    digits_all l.out l.byte-index l.rest _ l.invariant (omega arith)
