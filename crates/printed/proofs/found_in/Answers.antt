-- `printed::found_in` meets its contract: the text of what was found is that of the file.
-- Assumes nothing.
use borrow.Author.Rules.{rules}
use Rattle.std.proofs.lemmas.Result.{err_from_is_err_and}
use Rattle.rulefile.proofs.PartsLaws.{table_order, table_inside}
use Rattle.printed.proofs.PrintLaws.{refused_text, page_found}
use Rattle.printed.proofs.found_in.Goals as goal

pub returns-in_err-parts : goal.returns-in_err-parts
returns-in_err-parts c =
    let p = err_from_is_err_and c.from_residual.result c.from_residual.ensures.1 in
    rw (p.1, p.2) (refused_text _ c.in_err-parts.ensures)

pub slice_bounds-table-count : goal.slice_bounds-table-count
slice_bounds-table-count c = search (rules, table_order)

pub slice_bounds-table-start : goal.slice_bounds-table-start
slice_bounds-table-start c = search (rules, table_order)

pub slice_bounds-table-end : goal.slice_bounds-table-end
slice_bounds-table-end c = search (rules, table_inside)

pub returns : goal.returns
returns c = page_found _ c.in_ok-parts.ensures c.mark_states-marks.ensures
