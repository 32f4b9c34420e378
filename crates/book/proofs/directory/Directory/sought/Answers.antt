-- `sought` meets its contract: of the entries that are left the last is looked at. Assumes nothing.
use borrow.Author.Rules.{rules}
use native.Mathlib.Omega.{arith}
use Rattle.std.proofs.lemmas.Grind.{common_steps}
use lib.Seq.{take-length}
use Rattle.book.specs.Finding.{seek}
use Rattle.book.proofs.SeekLaws.{turn, newest_none, sought_from}
use Rattle.book.proofs.directory.Directory.sought.Goals as goal

pub loop-entry-init : goal.loop-entry-init
loop-entry-init c = (search rules, search (rules, take-length), search (rules, sought_from))

pub overflow_sub-start : goal.overflow_sub-start
overflow_sub-start c =
    let d = c.args.self in
    let t = turn c.requires d.counted d.ends d.are _ _ _ c.in-Some.ensures.steps c.loop-entry.invariant.1 in omega arith

pub returns-then-older-eq0 : goal.returns-then-older-eq0
unfolding seek
returns-then-older-eq0 c =
    let d = c.args.self in
    let t = turn c.requires d.counted d.ends d.are _ _ _ c.in-Some.ensures.steps c.loop-entry.invariant.1 in grind (arith, common_steps, t.newest)

pub loop-entry-preserved-then-entry-number : goal.loop-entry-preserved-then-entry-number
unfolding seek
loop-entry-preserved-then-entry-number c =
    let d = c.args.self in
    let t = turn c.requires d.counted d.ends d.are _ _ _ c.in-Some.ensures.steps c.loop-entry.invariant.1 in
    (search rules, t.front, grind (arith, common_steps, t.newest))

pub loop-entry-preserved : goal.loop-entry-preserved
unfolding seek
loop-entry-preserved c =
    let d = c.args.self in
    let t = turn c.requires d.counted d.ends d.are _ _ _ c.in-Some.ensures.steps c.loop-entry.invariant.1 in
    (search rules, t.front, grind (arith, common_steps, t.newest))

pub returns-then-older-age : goal.returns-then-older-age
unfolding seek
returns-then-older-age c = grind (arith, newest_none)

pub returns-else-older-age : goal.returns-else-older-age
unfolding seek
returns-else-older-age c = grind (arith, newest_none)
