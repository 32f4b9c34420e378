-- What `find` finds lies in the book that it is found in. Assumes nothing.
use Rattle.book.proofs.FindLaws.{in_its_job, in_its_office}
use borrow.Author.Rules.{rules}
use Rattle.book.proofs.find.Goals as goal

pub overflow_add-result : goal.overflow_add-result
overflow_add-result c = search (rules, in_its_job)

pub slice_bounds-result-end : goal.slice_bounds-result-end
slice_bounds-result-end c = search (rules, in_its_job)

pub overflow_add-result-in-Ok-Office : goal.overflow_add-result-in-Ok-Office
overflow_add-result-in-Ok-Office c = search (rules, in_its_office)

pub slice_bounds-result-end-in-Ok-Office : goal.slice_bounds-result-end-in-Ok-Office
slice_bounds-result-end-in-Ok-Office c = search (rules, in_its_office)
