-- `ground` meets its contract: what each operation's ground comes to. Assumes nothing.
use borrow.Author.Rules.{rules}
use Rattle.why.proofs.JudgeLaws.{judged_store, judged_halt, judged_dump}
use Rattle.why.proofs.grounds.Judged.ground.Goals as goal

pub held-requires : goal.held-requires
held-requires c = let r = rw c.of.ensures at c.reached-reach.ensures in search (rules, judged_store, r)

pub returns-in-Halt : goal.returns-in-Halt
returns-in-Halt c = let r = rw c.of.ensures at c.reached-reach.ensures in search (rules, judged_halt, r)

pub returns-in-Dump : goal.returns-in-Dump
returns-in-Dump c = let r = rw c.of.ensures at c.reached-reach.ensures in search (rules, judged_dump, r)
