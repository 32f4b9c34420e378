-- What a caller learns of each public function, from the contract that is proved of it, is what the demands say of it: a line for each, and the gate looks
-- that none is missing. So the demands are about the code that is built.
-- Assumes nothing.
use Prim.Native.Nat.{◌-◌}
use mathlib.Core.Path.{◌≡◌}
use lib.ListN.{length, take}
use Rattle.contracts.specs.Contract.{Keeps}
use Rattle.octets.specs.Copies.{copied}
use Rattle.octets.specs.Numbers as numbers
use Rattle.octets.specs.Numbers.{digits}
use Rattle.rule.specs.Range.{in_range}
use Rattle.rule.specs.Acceptance.{meets_all}
use Rattle.rule.specs.Sets.{those, has, including}
use Rattle.rule.specs.Backward.{reaching}
use Rattle.rule.specs.Reach.{place_of, target, with_moves, reached_within}
use Rattle.rule.specs.Ways.{event_into}
use Rattle.rule.specs.Drawing.{drawing_of}
use Rattle.rule.specs.Operations.{mark_of, ByMark, value_of, smallest_of}
use Rattle.rule.specs.Stopping.{stops_by}
use Rattle.rule.specs.Refusals.{told_of, first_of}
use Rattle.rule.specs.Refusals as paper
use Rattle.checks.specs.Checked.{checked_of}
use Rattle.trailer.specs.Conditions.{framed, shape_conditions, head_conditions}
use Rattle.trailer.specs.Layout.{trailer_of, trailer_out}
use Rattle.rulefile.specs.Reading.{parts_of, reading_of}
use Rattle.rulefile.specs.Writing.{WritePromise, parts, FilePromise}
use Rattle.book.specs.Finding.{lookup_of, FindPromise}
use Rattle.book.specs.Adding.{AddPromise}
use Rattle.sheet.specs.Opening.{opened_of}
use Rattle.making.specs.Making.{MakePromise}
use Rattle.effects.specs.Effects.{fresh_run, taken_by, StorePromise, DumpPromise}
use Rattle.rule.specs.declared.Operation.TheVariants.{Halt}
use Rattle.monitor.specs.Fresh.{start_of}
use Rattle.monitor.specs.Event.{EventPromise}
use Rattle.monitor.specs.Evening.{EveningPromise}
use Rattle.why.specs.Why.{WhyPromise}
use Rattle.printed.specs.Printing.{PrintPromise}
use Rattle.pachallu.specs.Told.{made_of, MakeForC, PrintForC, FindForC, AddForC, FreshForC, EventForC, EveningForC, WhyForC}
use Rattle.rulefile.specs.contracts as rulefile
use Rattle.rulefile.proofs as rulefile_proofs
use Rattle.book.specs.contracts as book
use Rattle.book.proofs as book_proofs
use Rattle.making.specs.contracts as making
use Rattle.making.proofs as making_proofs
use Rattle.sheet.specs.contracts as sheet
use Rattle.sheet.proofs as sheet_proofs
use Rattle.monitor.specs.contracts as monitor
use Rattle.monitor.proofs as monitor_proofs
use Rattle.effects.specs.contracts as effects
use Rattle.effects.proofs as effects_proofs
use Rattle.why.specs.contracts as why
use Rattle.why.proofs as why_proofs
use Rattle.printed.specs.contracts as printed
use Rattle.printed.proofs as printed_proofs
use Rattle.pachallu.specs.contracts as pachallu
use Rattle.pachallu.proofs as pachallu_proofs
use Rattle.trailer.specs.contracts as trailer
use Rattle.trailer.proofs as trailer_proofs
use Rattle.checks.specs.contracts as checks
use Rattle.checks.proofs as checks_proofs
use Rattle.operations.specs.Marks.{operation_in, marks_of}
use Rattle.operations.specs.contracts as operations
use Rattle.operations.proofs as operations_proofs
use Rattle.reach.specs.contracts as reach
use Rattle.reach.proofs as reach_proofs
use Rattle.rule.specs.contracts as rule
use Rattle.rule.proofs as rule_proofs
use Rattle.octets.specs.contracts as octets
use Rattle.octets.proofs as octets_proofs

-- the rule file: looked at, read, written

pub parts_keeps : Keeps rulefile.parts.ended rulefile_proofs.parts.Reads.Learnt λ κs a r l. r ≡ parts_of a.0.now
parts_keeps κs a x = x.told

pub read_keeps : Keeps rulefile.read.ended rulefile_proofs.read.Reads.Learnt λ κs a r l. r ≡ reading_of a.0.now
read_keeps κs a x = x.told

pub write_keeps : Keeps rulefile.write.ended rulefile_proofs.write.Reads.Learnt λ κs a r l. WritePromise a.0 a.1.0.now r l.1.0
write_keeps κs a x = x.told

pub put_file_keeps : Keeps rulefile.put_file.ended rulefile_proofs.put_file.Reads.Learnt λ κs a r l.
    FilePromise (parts a.0.now a.1.0) a.1.1.0.now r l.1.1.0
put_file_keeps κs a x = x.told

-- rules in books: looked up, added

pub look_keeps : Keeps book.look.ended book_proofs.look.Reads.Learnt λ κs a r l. r ≡ lookup_of a.0.now a.1.0.now a.1.1.0 a.1.1.1.0
look_keeps κs a x = x.told

pub find_keeps : Keeps book.find.ended book_proofs.find.Reads.Learnt λ κs a r l. FindPromise a.0 a.1.0 a.1.1.0 a.1.1.1.0 r
find_keeps κs a x = x.told

pub add_keeps : Keeps book.add.ended book_proofs.add.Reads.Learnt λ κs a r l.
    AddPromise a.0.now a.1.0 a.1.1.0.now a.1.1.1.0.now r l.1.1.1.0
add_keeps κs a x = x.told

-- the sheet: made, opened

pub make_keeps : Keeps making.make.ended making_proofs.make.Reads.Learnt λ κs a r l. MakePromise a.0.now a.1.0.now r l.1.0
make_keeps κs a x = x.told

pub why_keeps : Keeps why.why.ended why_proofs.why.Reads.Learnt λ κs a r l.
    WhyPromise a.0.now a.1.0.0 a.1.1.0.0 a.1.1.1.0.now r l.1.1.1.0
why_keeps κs a x = x.told

pub open_keeps : Keeps sheet.open.ended sheet_proofs.open.Reads.Learnt λ κs a r l. r ≡ opened_of a.0.now
open_keeps κs a x = x.told

-- the run: a fresh start, one event, an evening of them, and an event's operations

pub fresh_keeps : Keeps monitor.fresh.ended monitor_proofs.fresh.Reads.Learnt λ κs a r l. r ≡ start_of a.0.now
fresh_keeps κs a x = x.told

pub event_keeps : Keeps monitor.event.ended monitor_proofs.event.Reads.Learnt λ κs a r l.
    EventPromise a.0.now a.1.0 a.1.1.0 a.1.1.1.0.now a.1.1.1.1.0.now r l.1.1.1.0 l.1.1.1.1.0
event_keeps κs a x = x.told

pub events_keeps : Keeps monitor.events.ended monitor_proofs.events.Reads.Learnt λ κs a r l.
    EveningPromise a.0.now a.1.0 a.1.1.0.now a.1.1.1.0.now a.1.1.1.1.0.now r l.1.1.1.0 l.1.1.1.1.0
events_keeps κs a x = x.told

pub run_new_keeps : Keeps effects.Run.new.ended effects_proofs.Run.new.Reads.Learnt λ κs a r l. r ≡ fresh_run a.0
run_new_keeps κs a x = x.told

pub halt_keeps : Keeps effects.halt.ended effects_proofs.halt.Reads.Learnt λ κs a r l. r ≡ taken_by Halt a.0 a.1.0.held
halt_keeps κs a x = x.told

pub store_keeps : Keeps effects.store.ended effects_proofs.store.Reads.Learnt λ κs a r l.
    StorePromise a.0 a.1.0 a.1.1.0 a.1.1.1.0.now r l.1.1.1.0
store_keeps κs a x = x.told

pub dump_keeps : Keeps effects.dump.ended effects_proofs.dump.Reads.Learnt λ κs a r l.
    DumpPromise a.0 a.1.0.now a.1.1.0 a.1.1.1.0.now r l.1.1.1.0
dump_keeps κs a x = x.told

-- the printed monitor

pub print_keeps : Keeps printed.print.ended printed_proofs.print.Reads.Learnt λ κs a r l. PrintPromise a.0.now a.1.0.now r l.1.0
print_keeps κs a x = x.told

-- the calls from C

pub made_from_keeps : Keeps pachallu.MadeFromResultUsizeRefusal.from.ended pachallu_proofs.MadeFromResultUsizeRefusal.from.Reads.Learnt λ κs a r l.
    r ≡ made_of a.0
made_from_keeps κs a x = x.told

pub pachallu_make_keeps : Keeps pachallu.pachallu_make.ended pachallu_proofs.pachallu_make.Reads.Learnt λ κs a r l. MakeForC a.0.now a.1.0.now r l.1.0
pachallu_make_keeps κs a x = x.told

pub pachallu_print_keeps : Keeps pachallu.pachallu_print.ended pachallu_proofs.pachallu_print.Reads.Learnt λ κs a r l.
    PrintForC a.0.now a.1.0.now r l.1.0
pachallu_print_keeps κs a x = x.told

pub pachallu_find_keeps : Keeps pachallu.pachallu_find.ended pachallu_proofs.pachallu_find.Reads.Learnt λ κs a r l.
    FindForC a.0.now a.1.0.now a.1.1.0 a.1.1.1.0 r
pachallu_find_keeps κs a x = x.told

pub pachallu_add_keeps : Keeps pachallu.pachallu_add.ended pachallu_proofs.pachallu_add.Reads.Learnt λ κs a r l.
    AddForC a.0.now a.1.0 a.1.1.0.now a.1.1.1.0.now r l.1.1.1.0
pachallu_add_keeps κs a x = x.told

pub pachallu_fresh_keeps : Keeps pachallu.pachallu_fresh.ended pachallu_proofs.pachallu_fresh.Reads.Learnt λ κs a r l. FreshForC a.0.now r
pachallu_fresh_keeps κs a x = x.told

pub pachallu_event_keeps : Keeps pachallu.pachallu_event.ended pachallu_proofs.pachallu_event.Reads.Learnt λ κs a r l.
    EventForC a.0.now a.1.0 a.1.1.0 a.1.1.1.0 a.1.1.1.1.0.now a.1.1.1.1.1.0.now r l.1.1.1.1.0
    l.1.1.1.1.1.0
pachallu_event_keeps κs a x = x.told

pub pachallu_events_keeps : Keeps pachallu.pachallu_events.ended pachallu_proofs.pachallu_events.Reads.Learnt λ κs a r l.
    EveningForC a.0.now a.1.0 a.1.1.0 a.1.1.1.0.now a.1.1.1.1.0.now a.1.1.1.1.1.0.now r
    l.1.1.1.1.0 l.1.1.1.1.1.0
pachallu_events_keeps κs a x = x.told

pub pachallu_why_keeps : Keeps pachallu.pachallu_why.ended pachallu_proofs.pachallu_why.Reads.Learnt λ κs a r l.
    WhyForC a.0.now a.1.0 a.1.1.0 a.1.1.1.0.now r l.1.1.1.0
pachallu_why_keeps κs a x = x.told

-- the checks that they are built of

pub framed_keeps : Keeps trailer.framed.ended trailer_proofs.framed.Reads.Learnt λ κs a r l. r ≡ framed a.0.now
framed_keeps κs a x = x.told

pub check_shape_keeps : Keeps trailer.check_shape.ended trailer_proofs.check_shape.Reads.Learnt λ κs a r l. r ≡ first_of (shape_conditions a.0)
check_shape_keeps κs a x = x.told

pub check_trailer_keeps : Keeps trailer.check_trailer.ended trailer_proofs.check_trailer.Reads.Learnt λ κs a r l. r ≡ first_of (head_conditions a.0 a.1.0)
check_trailer_keeps κs a x = x.told

pub trailer_of_keeps : Keeps trailer.trailer_of.ended trailer_proofs.trailer_of.Reads.Learnt λ κs a r l. r ≡ trailer_of a.0.now
trailer_of_keeps κs a x = x.told

pub put_trailer_keeps : Keeps trailer.put_trailer.ended trailer_proofs.put_trailer.Reads.Learnt λ κs a r l. l.0 ≡ copied (trailer_out a.1.0) a.0.now
put_trailer_keeps κs a x = x.told

pub check_body_keeps : Keeps checks.check_body.ended checks_proofs.check_body.Reads.Learnt λ κs a r l. r ≡ checked_of (drawing_of a.0)
check_body_keeps κs a x = x.told

pub check_entries_keeps : Keeps checks.check_entries.ended checks_proofs.check_entries.Reads.Learnt λ κs a r l. r ≡ paper.entries (drawing_of a.0)
check_entries_keeps κs a x = x.told

pub check_members_keeps : Keeps checks.check_members.ended checks_proofs.check_members.Reads.Learnt λ κs a r l. r ≡ paper.members (drawing_of a.0)
check_members_keeps κs a x = x.told

pub check_excess_keeps : Keeps checks.check_excess.ended checks_proofs.check_excess.Reads.Learnt λ κs a r l. r ≡ paper.excess (drawing_of a.0)
check_excess_keeps κs a x = x.told

pub check_moves_keeps : Keeps checks.check_moves.ended checks_proofs.check_moves.Reads.Learnt λ κs a r l. r ≡ paper.moves (drawing_of a.0)
check_moves_keeps κs a x = x.told

pub check_stopped_keeps : Keeps checks.check_stopped.ended checks_proofs.check_stopped.Reads.Learnt λ κs a r l. r ≡ paper.stopped (drawing_of a.0)
check_stopped_keeps κs a x = x.told

-- what is computed of a rule

pub value_keeps : Keeps operations.value.ended operations_proofs.value.Reads.Learnt λ κs a r l. r ≡ value_of a.0 a.1.0 a.1.1.0.0
value_keeps κs a x = x.told

pub operation_keeps : Keeps operations.operation.ended operations_proofs.operation.Reads.Learnt λ κs a r l.
    r ≡ smallest_of a.0.now a.1.0 a.1.1.0.0
operation_keeps κs a x = x.told

pub marks_at_keeps : Keeps operations.Marks.at.ended operations_proofs.Marks.at.Reads.Learnt λ κs a r l. r ≡ operation_in a.0 a.1.0.0
marks_at_keeps κs a x = x.told

pub good_states_keeps : Keeps operations.good_states.ended operations_proofs.good_states.Reads.Learnt λ κs a r l. r ≡ those (meets_all a.0.now) 64
good_states_keeps κs a x = x.told

pub mark_states_keeps : Keeps operations.mark_states.ended operations_proofs.mark_states.Reads.Learnt λ κs a r l.
    r ≡ marks_of (drawing_of a.0)
mark_states_keeps κs a x = x.told

pub stops_keeps : Keeps operations.stops.ended operations_proofs.stops.Reads.Learnt λ κs a r l. r ≡ stops_by a.0 a.1.0 a.1.1.0.0
stops_keeps κs a x = x.told

pub contains_keeps : Keeps reach.sets.contains.ended reach_proofs.sets.contains.Reads.Learnt λ κs a r l. r ≡ has a.0 a.1.0.0
contains_keeps κs a x = x.told

pub insert_keeps : Keeps reach.sets.insert.ended reach_proofs.sets.insert.Reads.Learnt λ κs a r l. r ≡ including a.0 a.1.0.0
insert_keeps κs a x = x.told

pub moves_of_keeps : Keeps reach.Moves.of.ended reach_proofs.Moves.of.Reads.Learnt λ κs a r l.
    r ≡ record { table = a.0.table; states = a.0.shape.states; events = a.0.shape.events }
moves_of_keeps κs a x = x.told

pub moves_next_keeps : Keeps reach.Moves.next.ended reach_proofs.Moves.next.Reads.Learnt λ κs a r l. r.0 ≡ target a.0.table.now a.0.events a.1.0.0 a.1.1.0.0
moves_next_keeps κs a x = x.told

pub moves_with_moves_keeps : Keeps reach.Moves.with_moves.ended reach_proofs.Moves.with_moves.Reads.Learnt λ κs a r l.
    r ≡ with_moves a.0.table.now a.0.events a.1.0.0 a.1.1.0 a.0.events
moves_with_moves_keeps κs a x = x.told

pub moves_reached_within_keeps : Keeps reach.Moves.reached_within.ended reach_proofs.Moves.reached_within.Reads.Learnt λ κs a r l.
    r ≡ reached_within a.0.table.now a.0.states a.0.events a.1.0.0 a.1.1.0
moves_reached_within_keeps κs a x = x.told

pub moves_reached_keeps : Keeps reach.Moves.reached.ended reach_proofs.Moves.reached.Reads.Learnt λ κs a r l.
    r ≡ reached_within a.0.table.now a.0.states a.0.events a.1.0.0 (a.0.states - 1)
moves_reached_keeps κs a x = x.told

pub moves_event_into_keeps : Keeps reach.Moves.event_into.ended reach_proofs.Moves.event_into.Reads.Learnt λ κs a r l.
    r ≡ event_into (target a.0.table.now a.0.events) a.0.events a.1.1.0 a.1.0.0
moves_event_into_keeps κs a x = x.told

pub moves_backward_keeps : Keeps reach.Moves.backward.ended reach_proofs.Moves.backward.Reads.Learnt λ κs a r l.
    r ≡ reaching (target a.0.table.now a.0.events) a.0.states a.0.events a.1.0
moves_backward_keeps κs a x = x.told

-- numbers and places

pub place_keeps : Keeps rule.place.ended rule_proofs.place.Reads.Learnt λ κs a r l. r ≡ place_of a.0 a.1.0.0 a.1.1.0.0
place_keeps κs a x = x.told

pub limits_hold_keeps : Keeps rule.Limits.hold.ended rule_proofs.Limits.hold.Reads.Learnt λ κs a r l. r ≡ in_range a.0 a.1.0 a.1.1.0 a.1.1.1.0.0
limits_hold_keeps κs a x = x.told

pub operation_try_from_keeps : Keeps rule.OperationTryFromU8.try_from.ended rule_proofs.OperationTryFromU8.try_from.Reads.Learnt λ κs a r l. ByMark a.0 r
operation_try_from_keeps κs a x = x.told

pub operation_mark_keeps : Keeps rule.Operation.mark.ended rule_proofs.Operation.mark.Reads.Learnt λ κs a r l. r ≡ mark_of a.0
operation_mark_keeps κs a x = x.told

pub refusal_told_keeps : Keeps rule.Refusal.told.ended rule_proofs.Refusal.told.Reads.Learnt λ κs a r l. r ≡ told_of a.0
refusal_told_keeps κs a x = x.told

pub copy_keeps : Keeps octets.copy.ended octets_proofs.copy.Reads.Learnt λ κs a r l. l.1.0 ≡ copied a.0.now a.1.0.now
copy_keeps κs a x = x.told

pub number_keeps : Keeps octets.number.ended octets_proofs.number.Reads.Learnt λ κs a r l. r ≡ numbers.value_of (take 8 a.0.now)
number_keeps κs a x = x.told

pub put_number_keeps : Keeps octets.put_number.ended octets_proofs.put_number.Reads.Learnt λ κs a r l. l.0 ≡ digits (length a.0.now) a.1.0
put_number_keeps κs a x = x.told
