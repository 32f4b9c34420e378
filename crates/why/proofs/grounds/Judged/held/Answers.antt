-- `held` meets its contract: what is waited for, and what putting the way there came to. Assumes nothing.
use borrow.Author.Rules.{rules}
use Rattle.std.proofs.lemmas.Result.{err_from_is_err_and}
use Rattle.why.proofs.JudgeLaws.{wanted_used, put_near, held_done, held_refused}
use Rattle.why.proofs.grounds.Judged.held.Goals as goal

pub goal_set-goal-requires : goal.goal_set-goal-requires
goal_set-goal-requires c = λ n. search (rules, wanted_used, n)

pub put-requires : goal.put-requires
put-requires c = (search rules, search rules, search rules, search (rules, put_near))

pub returns-in_err-n : goal.returns-in_err-n
returns-in_err-n c =
    let way = rw c.of.ensures at c.put.ensures in
    let p = err_from_is_err_and c.from_residual.result c.from_residual.ensures.1 in
    let s = c.args.self in
    rw (p.1, p.2) (held_refused s.body.shape s.body.table.now s.body.pairs.now s.used s.t.0 s.well s.within c.requires _ c.wanted-i.ensures _ c.goal_set-goal.ensures c.args.out.now _ _ way _ c.in_err-n.was)

pub returns : goal.returns
returns c =
    let way = rw c.of.ensures at c.put.ensures in
    let s = c.args.self in
    held_done s.body.shape s.body.table.now s.body.pairs.now s.used s.t.0 s.well s.within c.requires _ c.wanted-i.ensures _ c.goal_set-goal.ensures c.args.out.now _ _ way _ c.in_ok-n.was
