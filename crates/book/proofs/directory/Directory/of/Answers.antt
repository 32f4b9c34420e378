-- `of` gives the entries of a book. Assumes nothing.
use native.Mathlib.Omega.{arith}
use mathlib.Core.Path.{◌∙◌}
use Rattle.book.proofs.ChunkLaws.{chunk_count, chunks_are}
use Rattle.book.proofs.DirectoryLaws.{count_is}
use Rattle.book.proofs.directory.Directory.of.Goals as goal

pub invariant_of-directory : goal.invariant_of-directory
invariant_of-directory c =
    let b = c.args.book.now in
    let n = chunk_count b c.in_ok-start.start c.number-count.result (omega arith) c.as_chunks.ensures.front in
    record {
      few = omega (arith, n);
      ends = omega (arith, n);
      counted = n ∙ c.number-count.ensures ∙ count_is b c.in_ok-end.end (omega arith);
      are = chunks_are b c.in_ok-start.start c.number-count.result (omega arith) c.as_chunks.ensures.front;
    }
