-- Any two calls with the same arguments that the contract of an export allows are equal, as those of the call behind it are. Assumes nothing.
use Rattle.contracts.specs.Contract.{OneAnswer}
use Rattle.pachallu.proofs.OneAnswer as behind
use Rattle.pachallu_c.specs.contracts
use Rattle.pachallu_c.proofs

pub pachallu_make_one_answer : OneAnswer contracts.pachallu_make.ended proofs.pachallu_make.Reads.Learnt
pachallu_make_one_answer κs a x y =
    behind.pachallu_make_one_answer κs a (record { result = x.result; last = x.last; told = x.told })
    (record { result = y.result; last = y.last; told = y.told })

pub pachallu_print_one_answer : OneAnswer contracts.pachallu_print.ended proofs.pachallu_print.Reads.Learnt
pachallu_print_one_answer κs a x y =
    behind.pachallu_print_one_answer κs a (record { result = x.result; last = x.last; told = x.told })
    (record { result = y.result; last = y.last; told = y.told })

pub pachallu_fresh_one_answer : OneAnswer contracts.pachallu_fresh.ended proofs.pachallu_fresh.Reads.Learnt
pachallu_fresh_one_answer κs a x y =
    behind.pachallu_fresh_one_answer κs a (record { result = x.result; last = x.last; told = x.told })
    (record { result = y.result; last = y.last; told = y.told })

pub pachallu_event_one_answer : OneAnswer contracts.pachallu_event.ended proofs.pachallu_event.Reads.Learnt
pachallu_event_one_answer κs a x y =
    behind.pachallu_event_one_answer κs a (record { result = x.result; last = x.last; told = x.told })
    (record { result = y.result; last = y.last; told = y.told })

pub pachallu_find_one_answer : OneAnswer contracts.pachallu_find.ended proofs.pachallu_find.Reads.Learnt
pachallu_find_one_answer κs a x y =
    behind.pachallu_find_one_answer κs a (record { result = x.result; last = x.last; told = x.told })
    (record { result = y.result; last = y.last; told = y.told })

pub pachallu_add_one_answer : OneAnswer contracts.pachallu_add.ended proofs.pachallu_add.Reads.Learnt
pachallu_add_one_answer κs a x y =
    behind.pachallu_add_one_answer κs a (record { result = x.result; last = x.last; told = x.told })
    (record { result = y.result; last = y.last; told = y.told })

pub pachallu_events_one_answer : OneAnswer contracts.pachallu_events.ended proofs.pachallu_events.Reads.Learnt
pachallu_events_one_answer κs a x y =
    behind.pachallu_events_one_answer κs a (record { result = x.result; last = x.last; told = x.told })
    (record { result = y.result; last = y.last; told = y.told })

pub pachallu_why_one_answer : OneAnswer contracts.pachallu_why.ended proofs.pachallu_why.Reads.Learnt
pachallu_why_one_answer κs a x y =
    behind.pachallu_why_one_answer κs a (record { result = x.result; last = x.last; told = x.told })
    (record { result = y.result; last = y.last; told = y.told })
