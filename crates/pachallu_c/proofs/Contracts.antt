-- What a caller in C learns of each export, from the contract that is proved of it, is what the demands say of the call behind it: a line for each,
-- and the gate looks that none is missing. They stand here and not with the other lines, in the crate demands, because no crate can stand on a static
-- library.
-- Assumes nothing.
use Rattle.contracts.specs.Contract.{Keeps}
use Rattle.pachallu.specs.Told.{MakeForC, PrintForC, FindForC, AddForC, FreshForC, EventForC, EveningForC, WhyForC}
use Rattle.pachallu_c.specs.contracts
use Rattle.pachallu_c.proofs

pub pachallu_make_keeps : Keeps contracts.pachallu_make.ended proofs.pachallu_make.Reads.Learnt λ κs a r l. MakeForC a.0.now a.1.0.now r l.1.0
pachallu_make_keeps κs a x = x.told

pub pachallu_print_keeps : Keeps contracts.pachallu_print.ended proofs.pachallu_print.Reads.Learnt λ κs a r l.
    PrintForC a.0.now a.1.0.now r l.1.0
pachallu_print_keeps κs a x = x.told

pub pachallu_find_keeps : Keeps contracts.pachallu_find.ended proofs.pachallu_find.Reads.Learnt λ κs a r l.
    FindForC a.0.now a.1.0.now a.1.1.0 a.1.1.1.0 r
pachallu_find_keeps κs a x = x.told

pub pachallu_add_keeps : Keeps contracts.pachallu_add.ended proofs.pachallu_add.Reads.Learnt λ κs a r l.
    AddForC a.0.now a.1.0 a.1.1.0.now a.1.1.1.0.now r l.1.1.1.0
pachallu_add_keeps κs a x = x.told

pub pachallu_fresh_keeps : Keeps contracts.pachallu_fresh.ended proofs.pachallu_fresh.Reads.Learnt λ κs a r l. FreshForC a.0.now r
pachallu_fresh_keeps κs a x = x.told

pub pachallu_event_keeps : Keeps contracts.pachallu_event.ended proofs.pachallu_event.Reads.Learnt λ κs a r l.
    EventForC a.0.now a.1.0 a.1.1.0 a.1.1.1.0 a.1.1.1.1.0.now a.1.1.1.1.1.0.now r l.1.1.1.1.0
    l.1.1.1.1.1.0
pachallu_event_keeps κs a x = x.told

pub pachallu_events_keeps : Keeps contracts.pachallu_events.ended proofs.pachallu_events.Reads.Learnt λ κs a r l.
    EveningForC a.0.now a.1.0 a.1.1.0 a.1.1.1.0.now a.1.1.1.1.0.now a.1.1.1.1.1.0.now r
    l.1.1.1.1.0 l.1.1.1.1.1.0
pachallu_events_keeps κs a x = x.told

pub pachallu_why_keeps : Keeps contracts.pachallu_why.ended proofs.pachallu_why.Reads.Learnt λ κs a r l.
    WhyForC a.0.now a.1.0 a.1.1.0 a.1.1.1.0.now r l.1.1.1.0
pachallu_why_keeps κs a x = x.told
