-- `checks::first_forbidden_closed` meets its contract: the set has every target that the class forbids.
-- Assumes nothing.
use Rattle.std.proofs.Common.{◌∙◌}
use Rattle.rule.specs.Drawing.{drawing_of}
use Rattle.checks.proofs.CheckLaws.{forbidden_by_set}
use Rattle.checks.proofs.first_forbidden_closed.Goals as goal

pub returns : goal.returns
returns c =
    let r = c.requires in
    rw c.of.ensures at c.event_into.ensures
    ∙ forbidden_by_set (drawing_of c.args.body) c.args.s.0 c.banned.result (rw c.used.ensures at c.banned.ensures) r.held r.closed r.known
