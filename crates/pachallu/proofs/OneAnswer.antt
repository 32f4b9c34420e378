-- Any two calls with the same arguments that the contract of a function of this crate allows are equal. Assumes nothing.
use mathlib.Core.Path.{refl, sym, ap, ◌∙◌}
use Rattle.contracts.specs.Contract.{OneAnswer}
use Rattle.why.proofs.OneAnswer.{ground_one}
use Rattle.pachallu.specs.Told.{made_of, answered_of, evening_for, reason_of, run_of}
use Rattle.pachallu.specs.contracts
use Rattle.pachallu.proofs

pub made_from_one_answer : OneAnswer contracts.MadeFromResultUsizeRefusal.from.ended proofs.MadeFromResultUsizeRefusal.from.Reads.Learnt
made_from_one_answer κs a x y = (x.told ∙ sym y.told, refl)

pub pachallu_make_one_answer : OneAnswer contracts.pachallu_make.ended proofs.pachallu_make.Reads.Learnt
pachallu_make_one_answer κs a x y = (
  x.told.told ∙ ap made_of (x.told.promise.answer ∙ sym y.told.promise.answer) ∙ sym y.told.told,
  λ i. (tt, ((x.told.promise.output ∙ sym y.told.promise.output) i, tt)),
)

pub pachallu_print_one_answer : OneAnswer contracts.pachallu_print.ended proofs.pachallu_print.Reads.Learnt
pachallu_print_one_answer κs a x y = (
  x.told.told ∙ ap made_of (x.told.promise.answer ∙ sym y.told.promise.answer) ∙ sym y.told.told,
  λ i. (tt, ((x.told.promise.output ∙ sym y.told.promise.output) i, tt)),
)

pub pachallu_add_one_answer : OneAnswer contracts.pachallu_add.ended proofs.pachallu_add.Reads.Learnt
pachallu_add_one_answer κs a x y = (
  x.told.told ∙ ap made_of (x.told.promise.answer ∙ sym y.told.promise.answer) ∙ sym y.told.told,
  λ i. (tt, (tt, (tt, ((x.told.promise.output ∙ sym y.told.promise.output) i, tt)))),
)

pub pachallu_find_one_answer : OneAnswer contracts.pachallu_find.ended proofs.pachallu_find.Reads.Learnt
pachallu_find_one_answer κs a x y = (x.told ∙ sym y.told, refl)

pub pachallu_fresh_one_answer : OneAnswer contracts.pachallu_fresh.ended proofs.pachallu_fresh.Reads.Learnt
pachallu_fresh_one_answer κs a x y = (x.told ∙ sym y.told, refl)

pub pachallu_event_one_answer : OneAnswer contracts.pachallu_event.ended proofs.pachallu_event.Reads.Learnt
pachallu_event_one_answer κs a x y =
    let p = x.told.promise in
    let q = y.told.promise in (
      x.told.told ∙ ap (λ r. answered_of r (run_of a.1.0 a.1.1.0)) (p.answer ∙ sym q.answer) ∙ sym y.told.told,
      λ i. (tt, (tt, (tt, (tt, ((p.memory_after ∙ sym q.memory_after) i, ((p.output_after ∙ sym q.output_after) i, tt)))))),
    )

pub pachallu_events_one_answer : OneAnswer contracts.pachallu_events.ended proofs.pachallu_events.Reads.Learnt
pachallu_events_one_answer κs a x y =
    let p = x.told.promise in
    let q = y.told.promise in (
      x.told.told ∙ ap evening_for (p.report ∙ sym q.report) ∙ sym y.told.told,
      λ i. (tt, (tt, (tt, (tt, ((p.memory_after ∙ sym q.memory_after) i, ((p.output_after ∙ sym q.output_after) i, tt)))))),
    )

pub pachallu_why_one_answer : OneAnswer contracts.pachallu_why.ended proofs.pachallu_why.Reads.Learnt
pachallu_why_one_answer κs a x y =
    let q = ground_one x.told.promise y.told.promise in (
      x.told.told ∙ ap reason_of q.0 ∙ sym y.told.told,
      λ i. (tt, (tt, (tt, (q.1 i, tt)))),
    )
