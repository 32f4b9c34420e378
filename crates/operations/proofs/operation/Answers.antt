-- `operations::operation` meets its contract: the smallest value, one pair at a time. Assumes nothing.
use borrow.Author.Rules.{rules}
use Rattle.std.proofs.lemmas.Iterator.{YieldsList-from_slice}
use Rattle.std.proofs.lemmas.Iterator.Consumers.{fold_from_yields_List}
use Rattle.operations.proofs.ValueLaws.{with_value, smallest_all}
use Rattle.operations.proofs.operation.Goals as goal

pub returns : goal.returns
returns c =
    let a = c.args in
    let step = with_value a.reached a.target.0 in
    smallest_all _ _ _ _ (fold_from_yields_List _ step _ _ c.fold.ensures.ran (YieldsList-from_slice a.pairs.now cc) (λ x p y q k. search rules))
