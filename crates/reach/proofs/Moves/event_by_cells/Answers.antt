-- `reach::Moves::event_by_cells` meets its contract: the first cell that leads into the set. Assumes nothing.
use borrow.Author.Rules.{rules}
use borrow.Author.Tests.{tests}
use mathlib.Core.Bool.{true, false}
use mathlib.Core.Path.{◌≡◌, ◌∙◌}
use Rattle.std.proofs.lemmas.Iterator.{first_from_Range}
use Rattle.rule.specs.Reach.{target}
use Rattle.rule.specs.Sets.{has}
use Rattle.reach.proofs.StepLaws.{into_cells}
use Rattle.reach.proofs.Moves.event_by_cells.Goals as goal

pub returns : goal.returns
returns c =
    let a = c.args in
    let m = a.self in
    c.unwrap_or.ensures
    ∙ into_cells m.table.now m.events a.s.0 a.set _
    (first_from_Range _ _ _ _
    (λ e. has a.set (target m.table.now m.events a.s.0 e) ≡ true)
    (λ e. has a.set (target m.table.now m.events a.s.0 e) ≡ false)
    c.find.ensures.ran
    (λ x q k. search (rules, tests))
    (λ x q k. search (rules, tests)))
