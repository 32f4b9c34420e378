-- `rulefile::parts` meets its contract: where the head or the body is refused.
-- Assumes nothing.
use mathlib.Core.Path.{◌∙◌}
use Rattle.rulefile.proofs.ReadingLaws.{head_wrong, body_wrong}
use Rattle.rulefile.proofs.WhenLaws.{passed_on}
use Rattle.rulefile.proofs.parts.Goals as goal

pub returns-in_err-check_trailer : goal.returns-in_err-check_trailer
returns-in_err-check_trailer c =
    passed_on _ c.from_residual.ensures.1
    ∙ head_wrong _ c.framed.ensures c.if-not-framed.false c.trailer_of-trailer.ensures c.check_trailer.ensures c.in_err-check_trailer.was

pub returns-in_err-check_body : goal.returns-in_err-check_body
returns-in_err-check_body c =
    passed_on _ c.from_residual-in_err-check_body.ensures.1
    ∙ body_wrong _ c.framed.ensures c.if-not-framed.false c.trailer_of-trailer.ensures c.check_trailer.ensures
    c.in_ok-check_trailer.was c.fill_pairs.ensures c.check_body.ensures c.in_err-check_body.was
