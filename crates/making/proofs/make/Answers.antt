-- `make` meets its contract: a refusal of the file, or what putting the sheet of its drawing comes to. Assumes nothing.
use mathlib.Core.Path.{◌≡◌}
use Rattle.std.specs.Prelude.{Ok}
use Rattle.rulefile.specs.Reading.{parts_of}
use Rattle.rulefile.proofs.PartsLaws.{table_order, table_inside}
use Rattle.std.proofs.lemmas.Result.{err_from_is_err_and}
use Rattle.making.proofs.FoundLaws.{found_well, found_low, found_short, made_refused, made}
use borrow.Author.Rules.{rules}
use Rattle.making.proofs.make.Goals as goal

pub returns-in_err-parts : goal.returns-in_err-parts
returns-in_err-parts c = search (rules, err_from_is_err_and, made_refused)

pub slice_bounds-body-count : goal.slice_bounds-body-count
slice_bounds-body-count c = search (rules, table_order)

pub slice_bounds-body-start : goal.slice_bounds-body-start
slice_bounds-body-start c = search (rules, table_order)

pub slice_bounds-body-end : goal.slice_bounds-body-end
slice_bounds-body-end c = search (rules, table_inside)

pub put-requires : goal.put-requires
put-requires c =
    let is : Ok c.in_ok-parts.parts ≡ parts_of c.args.file.now = search rules in
    (found_well _ is, found_low _ is, found_short _ is)

pub returns : goal.returns
returns c = let is : Ok c.in_ok-parts.parts ≡ parts_of c.args.file.now = search rules in made _ is c.put.ensures
