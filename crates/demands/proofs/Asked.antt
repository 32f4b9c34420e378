-- A closed witness of what M-102 asks: at the beginning of setup rule A a backsight is held, for pair 0, and the way is a foresight. A history takes both, and
-- there everything is out. By computation.
-- Assumes nothing.
use mathlib.Core.Path.{refl, ap}
use mathlib.Core.List.{List, [], ◌∷◌}
use Prim.Native.Nat.{ℕ}
use native.Mathlib.Omega.{arith}
use lib.ListN.{get_or}
use Rattle.std.specs.Prelude.{Ok, Err}
use Rattle.octets.specs.Numbers.{value_of, digits}
use Rattle.rule.specs.Sets.{has, insert, including, meets_below, meets, is_empty, names_past}
use Rattle.rule.specs.Reach.{target, with_moves, moved_below, moved_set, spread, reached_within}
use Rattle.rule.specs.Operations as paper
use Rattle.rule.specs.Acceptance.{meets_pair}
use Rattle.rule.specs.Operations.{smallest_of, reach_of, operation_pairs, operation_at}
use Rattle.rule.specs.Stopping.{stops_by}
use Rattle.rule.specs.Classes.{moves_into, moves_out, forbids, forbids_some}
use Rattle.rule.specs.Range.{in_range}
use Rattle.rule.specs.Refusals.{first_of, first_below, first_cell, entries, members, exceeds, excess, moves, stopped_pairs, stopped}
use Rattle.rule.specs.Ways.{least, event_into, nearer_below, within, distance, way_by, way_into}
use Rattle.rule.specs.declared.Refusal.TheVariants.{Room}
use Rattle.trailer.specs.Conditions.{framed, classed, ranged, placed}
use Rattle.trailer.specs.Layout.{trailer_of, trailer_out}
use Rattle.rulefile.specs.Layout.{up_to, drawing_in, flat_up_to, file_of}
use Rattle.rulefile.specs.Reading.{verdict_on}
use Rattle.sheet.specs.Layout.{sheet_of}
use Rattle.sheet.specs.Opening.{opens, opened_of}
use Rattle.monitor.specs.Event.{cell_turn, look_of}
use Rattle.monitor.specs.Fresh.{start_run}
use Rattle.monitor.proofs.EveningGivenLaws.{evening_one}
use Rattle.why.specs.Grounds.{lost_among, unmet_among, wanted_pair, goal_set, way_for, way_told}
use Rattle.why.specs.Why.{WhyPromise, why_verdict}
use Rattle.why.specs.declared.Ground.TheVariants.{Held}
use Rattle.demands.specs.Marked.{A, Stand, eight, begin, one, all}
use Rattle.demands.specs.Why.{WayWorks, WayTaken}
use Rattle.demands.proofs.MadeLaws.{sound_made, begins}
use Rattle.demands.proofs.Runs.{none_refused, all_history}
use Rattle.demands.proofs.Why.{why_demand}

-- why the event 0 is held at the beginning, asked with room for one event
asked : WhyPromise (file_of A) 0 0 (9 ∷ []) (Ok (Held 0 1)) (1 ∷ [])
unfolding file_of flat_up_to trailer_out digits drawing_in trailer_of up_to value_of verdict_on first_of framed classed ranged in_range placed first_below
    first_cell entries members exceeds excess moves stopped_pairs stopped names_past is_empty has insert including meets_below meets target with_moves
    moved_below moved_set spread reached_within reach_of stops_by moves_into moves_out forbids forbids_some operation_at operation_pairs smallest_of
    paper.value_of meets_pair least event_into nearer_below within distance way_by way_into lost_among unmet_among wanted_pair goal_set way_for way_told
    why_verdict
asked = record { written = Ok 1; put = record { answer = refl; output = refl }; answer = refl }

-- the sheet of its file, and where a run of both events stands on it
abbrev sheet : List ℕ
sheet = sheet_of (drawing_in (file_of A))

abbrev stand : Stand
stand = all sheet (begin sheet) (0 ∷ 1 ∷ [])

-- the way works there
pub a_way_works : WayWorks (drawing_in (file_of A)) 0 stand.log stand.released stand.run
unfolding file_of flat_up_to trailer_out digits drawing_in trailer_of up_to value_of in_range has insert including meets_below meets target with_moves
    moved_below moved_set spread reached_within reach_of operation_at operation_pairs smallest_of paper.value_of sheet_of opens opened_of cell_turn look_of
    all one
a_way_works =
    let made = sound_made (file_of A) (ap (λ l. get_or l 0 (Err Room)) none_refused) in
    why_demand.works (file_of A) sheet made (begins made eight) 0 (9 ∷ []) 0 1 (1 ∷ []) asked
    (all_history sheet (begin sheet) (0 ∷ 1 ∷ []) (begins made eight)) refl

-- and with room its events are taken in one call
pub a_way_taken : let evening = evening_one sheet (start_run sheet) (0 ∷ 1 ∷ []) eight eight in
    WayTaken (drawing_in (file_of A)) 0 (start_run sheet) (0 ∷ 1 ∷ []) eight evening.answer evening.output
unfolding file_of flat_up_to trailer_out digits drawing_in trailer_of up_to value_of in_range has insert including meets_below meets target with_moves
    moved_below moved_set spread reached_within reach_of operation_at operation_pairs smallest_of paper.value_of sheet_of opens opened_of
a_way_taken =
    let made = sound_made (file_of A) (ap (λ l. get_or l 0 (Err Room)) none_refused) in
    why_demand.taken (file_of A) sheet made (begins made eight) 0 (9 ∷ []) 0 1 (1 ∷ []) asked eight (omega arith) (omega arith) _ _ _
    (evening_one sheet (start_run sheet) (0 ∷ 1 ∷ []) eight eight).kept
