-- `rulefile::write` meets its contract: one law for each return.
-- Assumes nothing.
use Rattle.rulefile.proofs.WhenLaws.{passed_on}
use Rattle.rulefile.proofs.WritingLaws.{head_refused, body_refused, rule_put}
use Rattle.rulefile.proofs.write.Goals as goal

pub returns-in_err-check_head : goal.returns-in_err-check_head
returns-in_err-check_head c =
    rw (passed_on _ c.from_residual.ensures.1) (head_refused c.args.rule c.check_head.ensures _ c.in_err-check_head.was)

pub returns-in_err-check_body : goal.returns-in_err-check_body
returns-in_err-check_body c =
    rw (passed_on _ c.from_residual-in_err-check_body.ensures.1)
    (body_refused c.args.rule c.check_head.ensures c.in_ok-check_head.was c.check_body.ensures _ c.in_err-check_body.was)

pub returns : goal.returns
returns c = rule_put c.args.rule c.check_head.ensures c.in_ok-check_head.was c.check_body.ensures c.in_ok-check_body.was c.put_file.ensures
