-- `checks::forbids_some` meets its contract: some pair forbids the move.
-- Assumes nothing.
use Rattle.std.proofs.Common.{rules, tests, ◌∙◌}
use Rattle.std.proofs.lemmas.Iterator.{YieldsList-from_slice}
use Rattle.std.proofs.lemmas.Iterator.Search.{any_from_yields_List}
use Rattle.rule.specs.Classes.{forbids}
use Rattle.checks.proofs.CheckLaws.{some_any}
use Rattle.checks.proofs.forbids_some.Goals as goal

pub returns : goal.returns
returns c =
    let a = c.args in
    any_from_yields_List (λ p. forbids a.body.shape.class p a.s.0 a.t.0) _ _ _
    c.any.ensures.ran (YieldsList-from_slice _ (cc)) (λ x b q k. search (rules, tests))
    ∙ some_any _ _ _ _
