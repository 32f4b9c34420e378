-- `each` meets its contract: one law for each arm, and one for the end of the log. Assumes nothing.
use borrow.Author.Rules.{rules}
use native.Mathlib.Omega.{arith}
use Rattle.monitor.proofs.EveningLaws.{goes_on, goes_past, calls_over, calls_refused}
use Rattle.monitor.proofs.steps.Opened.each.Goals as goal

pub loop-passed-preserved : goal.loop-passed-preserved
loop-passed-preserved c = grind (arith, goes_on, goes_past)

pub returns-in-Err : goal.returns-in-Err
returns-in-Err c = search (rules, calls_refused)

pub returns : goal.returns
returns c = search (rules, calls_over)
