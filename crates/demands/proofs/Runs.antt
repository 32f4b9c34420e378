-- The twelve marked runs, the files and the sheets of their rules, by computation; and that a computed run is a history, so that demand 3 speaks of it.
-- Assumes nothing.
use Prim.Native.Nat.{ℕ}
use mathlib.Core.Path.{◌≡◌, refl}
use mathlib.Core.List.{List, [], ◌∷◌, map}
use Rattle.std.specs.Prelude.{Ok}
use Rattle.octets.specs.Numbers.{value_of, digits}
use Rattle.rule.specs.Sets.{has, insert, including, those, meets_below, meets, is_empty, names_past}
use Rattle.rule.specs.Reach.{target, with_moves, moved_below, moved_set, spread, reached_within}
use Rattle.rule.specs.Drawing.{event_no}
use Rattle.rule.specs.Operations as paper
use Rattle.rule.specs.Acceptance.{meets_pair, meets_all, good_of}
use Rattle.rule.specs.Operations.{smallest_of, reach_of, operation_pairs, operation_joint, operation_at}
use Rattle.rule.specs.Stopping.{stops_by, stopping_joint}
use Rattle.rule.specs.Classes.{moves_into, moves_out, forbids, forbids_some}
use Rattle.rule.specs.Range.{in_range}
use Rattle.rule.specs.Refusals.{first_of, first_below, first_cell, entries, members, exceeds, excess, moves, stopped_pairs, stopped_joint, stopped}
use Rattle.trailer.specs.Conditions.{framed, classed, ranged, placed}
use Rattle.trailer.specs.Layout.{trailer_of, trailer_out}
use Rattle.rulefile.specs.Layout.{up_to, drawing_in, flat_up_to, file_of}
use Rattle.rulefile.specs.Reading.{verdict_on}
use Rattle.sheet.specs.Layout.{sheet_of}
use Rattle.sheet.specs.Opening.{opens, opened_of}
use Rattle.monitor.specs.Event.{cell_turn, look_of}
use Rattle.history.specs.History.{History, call}
use Rattle.demands.specs.Marked.{A, S, G, O, D, J, Stand, eight, begin, one, all, mark_of, marked, marked_joint, found, wanted}

-- the layout of setup rule A, byte for byte
pub file_A : file_of A ≡ 1 ∷ 2 ∷ 0 ∷ 2 ∷ 0 ∷ 2 ∷ 2 ∷ 2 ∷ 2 ∷ 1 ∷ 0 ∷ 0 ∷ 0 ∷ 0 ∷ 0 ∷ 0 ∷ 0 ∷ 0 ∷ 0 ∷ 0 ∷ 0 ∷ 0 ∷ 0 ∷ 0 ∷ 0 ∷ 4 ∷ 3 ∷ 3 ∷ 1 ∷ 0 ∷ 0 ∷
    37 ∷ 0 ∷ 28 ∷ 0 ∷ 72 ∷ 82 ∷ []
unfolding file_of flat_up_to trailer_out digits
file_A = refl

-- the five rules' files are read as these rules
pub read_back : map (λ d. drawing_in (file_of d)) (A ∷ S ∷ G ∷ O ∷ D ∷ []) ≡ A ∷ S ∷ G ∷ O ∷ D ∷ []
unfolding file_of flat_up_to trailer_out digits drawing_in trailer_of up_to value_of
read_back = refl

-- and none of them is refused
pub none_refused : map (λ d. verdict_on (file_of d)) (A ∷ S ∷ G ∷ O ∷ D ∷ []) ≡ Ok tt ∷ Ok tt ∷ Ok tt ∷ Ok tt ∷ Ok tt ∷ []
unfolding file_of flat_up_to trailer_out digits drawing_in trailer_of up_to value_of verdict_on first_of framed classed ranged in_range placed first_below
    first_cell entries members exceeds excess moves stopped_pairs stopped names_past is_empty has insert including meets_below meets target with_moves
    moved_below moved_set spread reached_within reach_of stops_by moves_into moves_out forbids forbids_some
none_refused = refl

-- their sheets
pub sheets : map sheet_of (A ∷ S ∷ G ∷ O ∷ D ∷ []) ≡
    (65 ∷ 2 ∷ 128 ∷ 2 ∷ 128 ∷ 2 ∷ 2 ∷ 2 ∷ 2 ∷ 3 ∷ 3 ∷ 0 ∷ 77 ∷ 15 ∷ 0 ∷ [])
    ∷ (129 ∷ 2 ∷ 129 ∷ 129 ∷ 2 ∷ 2 ∷ 3 ∷ 2 ∷ 0 ∷ 77 ∷ 12 ∷ 0 ∷ [])
    ∷ (64 ∷ 129 ∷ 129 ∷ 129 ∷ 2 ∷ 2 ∷ 0 ∷ 77 ∷ 10 ∷ 0 ∷ [])
    ∷ (1 ∷ 2 ∷ 64 ∷ 1 ∷ 1 ∷ 1 ∷ 2 ∷ 2 ∷ 2 ∷ 3 ∷ 3 ∷ 0 ∷ 77 ∷ 15 ∷ 0 ∷ [])
    ∷ (1 ∷ 1 ∷ 2 ∷ 1 ∷ 0 ∷ 77 ∷ 8 ∷ 0 ∷ [])
    ∷ []
unfolding sheet_of digits operation_at operation_pairs smallest_of paper.value_of reach_of has insert including meets_below meets target with_moves
    moved_below moved_set spread reached_within
sheets = refl

-- the joint rule is not refused either
pub joint_sound : verdict_on (file_of J) ≡ Ok tt
unfolding file_of flat_up_to trailer_out digits drawing_in trailer_of up_to value_of verdict_on first_of framed classed ranged in_range placed first_below
    first_cell entries members exceeds excess moves stopped_pairs stopped_joint stopped names_past is_empty has insert including those meets_below meets
    target with_moves moved_below moved_set spread reached_within reach_of stops_by stopping_joint good_of meets_all meets_pair moves_into moves_out
    forbids forbids_some
joint_sound = refl

-- its runs
pub the_joint : found marked_joint ≡ wanted marked_joint
unfolding found wanted mark_of all one sheet_of digits operation_at operation_pairs operation_joint good_of meets_all meets_pair those smallest_of
    paper.value_of reach_of has insert including meets_below meets target with_moves moved_below moved_set spread reached_within in_range opens opened_of
    cell_turn look_of
the_joint = refl

-- the twelve marked runs
pub the_twelve : found marked ≡ wanted marked
unfolding found wanted mark_of all one sheet_of digits operation_at operation_pairs smallest_of paper.value_of reach_of has insert including meets_below
    meets target with_moves moved_below moved_set spread reached_within in_range opens opened_of cell_turn look_of
the_twelve = refl

-- the fourth with codes between that are not the rule's business: the same, for they are not taken
pub remarked : mark_of (all (sheet_of A) (begin (sheet_of A)) (9 ∷ 0 ∷ 1 ∷ 255 ∷ 2 ∷ 0 ∷ 3 ∷ 1 ∷ 0 ∷ 2 ∷ 200 ∷ []))
    ≡ record { released = 0 ∷ 1 ∷ 2 ∷ 0 ∷ 1 ∷ []; held = 0 ∷ []; halt = 7 }
unfolding mark_of all one sheet_of digits operation_at operation_pairs smallest_of paper.value_of reach_of has insert including meets_below meets target
    with_moves moved_below moved_set spread reached_within in_range opens opened_of cell_turn look_of
remarked = refl

-- a computed run is a history
one_history : (sheet : List ℕ) (s : Stand) (e : ℕ) → History sheet s.log s.released s.run s.memory
    → History sheet (one sheet s e).log (one sheet s e).released (one sheet s e).run (one sheet s e).memory
unfolding one
one_history sheet s e h = call h (event_no e) eight _ _ _ (record { answer = refl; memory_after = refl; output_after = refl })

pub all_history : (sheet : List ℕ) (s : Stand) (es : List ℕ) → History sheet s.log s.released s.run s.memory
    → History sheet (all sheet s es).log (all sheet s es).released (all sheet s es).run (all sheet s es).memory
unfolding all
all_history sheet s [] h = h
all_history sheet s (e ∷ es) h = all_history sheet (one sheet s e) es (one_history sheet s e h)
