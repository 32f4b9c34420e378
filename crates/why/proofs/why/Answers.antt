-- `why` meets its contract. Assumes nothing.
use Rattle.rulefile.proofs.PartsLaws.{table_order, table_inside}
use Rattle.std.proofs.lemmas.Result.{err_from_is_err_and}
use Rattle.why.proofs.WhyLaws.{why_refused, why_state, why_event, why_well, why_in, why_low, why_few, why_used, why_judged}
use borrow.Author.Rules.{rules}
use Rattle.why.proofs.why.Goals as goal

pub returns-in_err-parts : goal.returns-in_err-parts
returns-in_err-parts c =
    let p = err_from_is_err_and c.from_residual.result c.from_residual.ensures.1 in
    rw (p.1, p.2) (why_refused _ _ _ _ c.in_err-parts.ensures)

pub returns-then-shape-state : goal.returns-then-shape-state
returns-then-shape-state c = why_state _ c.in_ok-parts.ensures _ _ _ c.if-shape-state.true

pub returns-then-shape-event : goal.returns-then-shape-event
returns-then-shape-event c = why_event _ c.in_ok-parts.ensures _ _ c.if-shape-state.false _ c.if-shape-event.true

pub slice_bounds-body-count : goal.slice_bounds-body-count
slice_bounds-body-count c = search (rules, table_order)

pub slice_bounds-body-start : goal.slice_bounds-body-start
slice_bounds-body-start c = search (rules, table_order)

pub slice_bounds-body-end : goal.slice_bounds-body-end
slice_bounds-body-end c = search (rules, table_inside)

pub shared_ref_as_front-body : goal.shared_ref_as_front-body
shared_ref_as_front-body c = why_few _ c.in_ok-parts.ensures _ _ c.if-shape-state.false c.if-shape-event.false

pub invariant_of-ground : goal.invariant_of-ground
invariant_of-ground c =
    let is = c.in_ok-parts.ensures in
    let s = c.if-shape-state.false in
    let e = c.if-shape-event.false in
    let t = rw c.of.ensures at c.next-t.ensures in
    record {
      well = why_well _ is _ _ s e;
      within = why_in _ is _ _ s e _ t;
      closed = why_low _ is _ _ s e;
      used = why_used _ is _ _ s e;
      few = why_few _ is _ _ s e;
    }

pub returns : goal.returns
returns c =
    let t = rw c.of.ensures at c.next-t.ensures in
    why_judged _ c.in_ok-parts.ensures _ _ c.if-shape-state.false c.if-shape-event.false _ t c.ground.ensures
