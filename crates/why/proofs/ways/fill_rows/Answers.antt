-- `fill_rows` meets its contract: the slice has the moves of each state below s.
-- Assumes nothing.
use borrow.Author.Rules.{rules}
use mathlib.Core.Path.{refl}
use lib.ListN.{length-set}
use Rattle.rule.proofs.ArrayLaws.{filled_none, filled_more, filled_all}
use Rattle.why.proofs.ways.fill_rows.Goals as goal

pub loop-s-init : goal.loop-s-init
loop-s-init c = (search rules, filled_none _ _, refl)

pub loop-s-preserved : goal.loop-s-preserved
loop-s-preserved c = (search rules, search (rules, filled_more), search (rules, length-set))

pub returns : goal.returns
returns c = search (rules, filled_all)
