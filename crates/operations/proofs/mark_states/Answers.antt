-- `operations::mark_states` meets its contract, by the mode. Assumes nothing.
use borrow.Author.Rules.{rules}
use Rattle.std.proofs.lemmas.List.{take_min}
use Rattle.operations.proofs.MarkLaws.{marks_joint, marks_pairs}
use Rattle.operations.proofs.mark_states.Goals as goal

pub returns-then-body-eq-JOINT : goal.returns-then-body-eq-JOINT
returns-then-body-eq-JOINT c =
    let b = c.args.body in
    let back = rw c.of-moves.ensures at c.backward-back.ensures in
    marks_joint b.shape b.table.now b.pairs.now _ (rw c.min-used.ensures (take_min _ _)) _ c.good_states-good.ensures
    _ c.if-body-eq-JOINT.true back (search rules)

pub returns : goal.returns
returns c =
    let b = c.args.body in
    let halt = rw c.of-moves.ensures at c.lost_states-halt.ensures in
    marks_pairs b.shape b.table.now b.pairs.now _ (rw c.min-used.ensures (take_min _ _)) _ c.good_states-good.ensures
    _ c.if-body-eq-JOINT.false halt
