-- `follow` meets its contract. Assumes nothing.
use borrow.Author.Rules.{rules}
use lib.ListN.{length}
use Rattle.why.proofs.LoopLaws.{moved_in, follow_none, follow_more, follow_all}
use Rattle.why.proofs.ways.follow.Goals as goal

pub loop-step-init : goal.loop-step-init
loop-step-init c =
    let m = c.args.moves in
    (search rules, follow_none m.table.now m.events c.args.steps.now (length c.args.out.now) c.args.t.0 c.args.out.now)

pub loop-step-preserved : goal.loop-step-preserved
loop-step-preserved c =
    let m = c.args.moves in
    let l = c.loop-step in (
      moved_in m.table.now m.events (length c.args.steps.now) _ _ _ c.requires.0 c.next-s.ensures,
      follow_more m.table.now m.events c.args.steps.now l.step-items _ (length c.args.out.now) l.step-index l.s.0 _
          (search rules) (search rules) c.next-s.ensures l.invariant.1,
    )

pub returns : goal.returns
returns c =
    let m = c.args.moves in
    let l = c.loop-step in
    follow_all m.table.now m.events c.args.steps.now l.step-items _ (length c.args.out.now) l.step-index l.s.0 (search rules) (search rules) l.invariant.1
