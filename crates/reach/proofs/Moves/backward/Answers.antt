-- `reach::Moves::backward` meets its contract: sweeps until one adds nothing. Each that adds something leaves fewer states outside the set.
-- Assumes nothing.
use borrow.Author.Rules.{rules}
use Rattle.rule.proofs.BackwardLaws.{grown_none, grown_more, up_swept, down_swept, swept_all, swept_less}
use Rattle.reach.proofs.Moves.backward.Goals as goal

pub loop-back-init : goal.loop-back-init
loop-back-init c = (search rules, grown_none _ _ _ _)

pub returns-then-down-back : goal.returns-then-down-back
returns-then-down-back c =
    let i = c.loop-back.invariant in
    swept_all _ _ _ c.args.set (search rules) _ _ i.0 i.1 (down_swept _ _ _ _ _ c.swept_down-down.ensures) c.if-down-back.true

pub returns-then-back-down : goal.returns-then-back-down
returns-then-back-down c =
    let i = c.loop-back.invariant in
    let D = down_swept _ _ _ _ _ c.swept_down-down.ensures in
    let U = up_swept _ _ _ _ _ c.swept_up-back.ensures in
    swept_all _ _ _ c.args.set (search rules) c.swept_down-down.result _
    (search rules) (grown_more _ _ _ i.1 D.grown) U c.if-back-down.true

pub loop-back-smaller : goal.loop-back-smaller
loop-back-smaller c =
    let i = c.loop-back.invariant in
    let D = down_swept _ _ _ _ _ c.swept_down-down.ensures in
    let U = up_swept _ _ _ _ _ c.swept_up-back.ensures in
    swept_less _ c.swept_down-down.result _ i.0 (search rules) D.grown.keeps U.grown.keeps c.if-down-back.false

pub loop-back-preserved : goal.loop-back-preserved
loop-back-preserved c =
    let i = c.loop-back.invariant in
    let D = down_swept _ _ _ _ _ c.swept_down-down.ensures in
    let U = up_swept _ _ _ _ _ c.swept_up-back.ensures in
    (search rules, grown_more _ _ _ i.1 (grown_more _ _ _ D.grown U.grown))
