-- Marked rules of document 01: the texts that are printed of their files, computed from the definitions.
-- Assumes nothing.
use Prim.Native.Nat.{ℕ}
use mathlib.Core.Path.{◌≡◌, refl}
use mathlib.Core.List.{List, [], ◌∷◌, ◌++◌}
use Rattle.octets.specs.Numbers.{value_of}
use Rattle.rule.specs.Sets.{has, insert, including, meets, meets_below, is_empty, names_past}
use Rattle.rule.specs.Reach.{target, with_moves, moved_below, moved_set, spread, reached_within}
use Rattle.rule.specs.Operations as operations
use Rattle.rule.specs.Stopping.{stops_by, stops_by_some, stopping_pairs, stopping}
use Rattle.rule.specs.Classes.{moves_out, forbids, forbids_some}
use Rattle.rule.specs.Refusals.{first_of, first_below, first_cell, entries, members, exceeds, excess, moves, stopped_pairs, stopped}
use Rattle.rule.specs.Range.{in_range}
use Rattle.trailer.specs.Conditions.{framed, classed, ranged, placed}
use Rattle.trailer.specs.Layout.{trailer_of}
use Rattle.rulefile.specs.Layout.{up_to, drawing_in, flat_up_to}
use Rattle.rulefile.specs.Reading.{verdict_on}
use Rattle.printed.specs.Text.{decimal, rest, line}
use Rattle.printed.specs.Printing.{header, cell_line, cell_of, row_lines, cell_lines, those_below, stop_line, monitor_text, refusal_line, text_of}

-- A's file: no note, the table, R and P of the pair, the trailer
abbrev A : List ℕ
A =
    (1 ∷ 2 ∷ 0 ∷ 2 ∷ 0 ∷ 2 ∷ 2 ∷ 2 ∷ 2 ∷ [])
    ++ ((1 ∷ 0 ∷ 0 ∷ 0 ∷ 0 ∷ 0 ∷ 0 ∷ 0 ∷ [])
    ++ ((0 ∷ 0 ∷ 0 ∷ 0 ∷ 0 ∷ 0 ∷ 0 ∷ 0 ∷ [])
    ++ (4 ∷ 3 ∷ 3 ∷ 1 ∷ 0 ∷ 0 ∷ 37 ∷ 0 ∷ 28 ∷ 0 ∷ 72 ∷ 82 ∷ [])))

-- and its text
abbrev text_A : List ℕ
text_A =
    (114 ∷ 117 ∷ 108 ∷ 101 ∷ 32 ∷ 52 ∷ 32 ∷ 51 ∷ 32 ∷ 51 ∷ 32 ∷ 49 ∷ 32 ∷ 48 ∷ 10 ∷ [])  -- rule 4 3 3 1 0
    ++ ((48 ∷ 32 ∷ 48 ∷ 32 ∷ 49 ∷ 32 ∷ 115 ∷ 116 ∷ 111 ∷ 114 ∷ 101 ∷ 10 ∷ [])  -- 0 0 1 store
    ++ ((48 ∷ 32 ∷ 49 ∷ 32 ∷ 50 ∷ 32 ∷ 104 ∷ 97 ∷ 108 ∷ 116 ∷ 10 ∷ [])  -- 0 1 2 halt
    ++ ((48 ∷ 32 ∷ 50 ∷ 32 ∷ 48 ∷ 32 ∷ 100 ∷ 117 ∷ 109 ∷ 112 ∷ 10 ∷ [])  -- 0 2 0 dump
    ++ ((49 ∷ 32 ∷ 48 ∷ 32 ∷ 50 ∷ 32 ∷ 104 ∷ 97 ∷ 108 ∷ 116 ∷ 10 ∷ [])  -- 1 0 2 halt
    ++ ((49 ∷ 32 ∷ 49 ∷ 32 ∷ 48 ∷ 32 ∷ 100 ∷ 117 ∷ 109 ∷ 112 ∷ 10 ∷ [])  -- 1 1 0 dump
    ++ ((49 ∷ 32 ∷ 50 ∷ 32 ∷ 50 ∷ 32 ∷ 104 ∷ 97 ∷ 108 ∷ 116 ∷ 10 ∷ [])  -- 1 2 2 halt
    ++ ((50 ∷ 32 ∷ 48 ∷ 32 ∷ 50 ∷ 32 ∷ 104 ∷ 97 ∷ 108 ∷ 116 ∷ 10 ∷ [])  -- 2 0 2 halt
    ++ ((50 ∷ 32 ∷ 49 ∷ 32 ∷ 50 ∷ 32 ∷ 104 ∷ 97 ∷ 108 ∷ 116 ∷ 10 ∷ [])  -- 2 1 2 halt
    ++ ((50 ∷ 32 ∷ 50 ∷ 32 ∷ 50 ∷ 32 ∷ 104 ∷ 97 ∷ 108 ∷ 116 ∷ 10 ∷ [])  -- 2 2 2 halt
    ++ (115 ∷ 116 ∷ 111 ∷ 112 ∷ 32 ∷ 50 ∷ 10 ∷ []))))))))))  -- stop 2

-- G, which has no stopping state
abbrev G : List ℕ
G =
    (0 ∷ 1 ∷ 1 ∷ 1 ∷ [])
    ++ ((2 ∷ 0 ∷ 0 ∷ 0 ∷ 0 ∷ 0 ∷ 0 ∷ 0 ∷ [])
    ++ ((0 ∷ 0 ∷ 0 ∷ 0 ∷ 0 ∷ 0 ∷ 0 ∷ 0 ∷ [])
    ++ (2 ∷ 2 ∷ 2 ∷ 1 ∷ 0 ∷ 0 ∷ 32 ∷ 0 ∷ 28 ∷ 0 ∷ 72 ∷ 82 ∷ [])))

-- and its text
abbrev text_G : List ℕ
text_G =
    (114 ∷ 117 ∷ 108 ∷ 101 ∷ 32 ∷ 50 ∷ 32 ∷ 50 ∷ 32 ∷ 50 ∷ 32 ∷ 49 ∷ 32 ∷ 48 ∷ 10 ∷ [])  -- rule 2 2 2 1 0
    ++ ((48 ∷ 32 ∷ 48 ∷ 32 ∷ 48 ∷ 32 ∷ 115 ∷ 116 ∷ 111 ∷ 114 ∷ 101 ∷ 10 ∷ [])  -- 0 0 0 store
    ++ ((48 ∷ 32 ∷ 49 ∷ 32 ∷ 49 ∷ 32 ∷ 100 ∷ 117 ∷ 109 ∷ 112 ∷ 10 ∷ [])  -- 0 1 1 dump
    ++ ((49 ∷ 32 ∷ 48 ∷ 32 ∷ 49 ∷ 32 ∷ 100 ∷ 117 ∷ 109 ∷ 112 ∷ 10 ∷ [])  -- 1 0 1 dump
    ++ ((49 ∷ 32 ∷ 49 ∷ 32 ∷ 49 ∷ 32 ∷ 100 ∷ 117 ∷ 109 ∷ 112 ∷ 10 ∷ [])  -- 1 1 1 dump
    ++ (115 ∷ 116 ∷ 111 ∷ 112 ∷ 32 ∷ 45 ∷ 10 ∷ [])))))  -- stop -

-- A with a next state of state 1 that is no state
abbrev B : List ℕ
B =
    (1 ∷ 2 ∷ 0 ∷ 2 ∷ 0 ∷ 3 ∷ 2 ∷ 2 ∷ 2 ∷ [])
    ++ ((1 ∷ 0 ∷ 0 ∷ 0 ∷ 0 ∷ 0 ∷ 0 ∷ 0 ∷ [])
    ++ ((0 ∷ 0 ∷ 0 ∷ 0 ∷ 0 ∷ 0 ∷ 0 ∷ 0 ∷ [])
    ++ (4 ∷ 3 ∷ 3 ∷ 1 ∷ 0 ∷ 0 ∷ 37 ∷ 0 ∷ 28 ∷ 0 ∷ 72 ∷ 82 ∷ [])))

-- and what is printed of it
abbrev text_B : List ℕ
text_B =
    (114 ∷ 101 ∷ 102 ∷ 117 ∷ 115 ∷ 101 ∷ 100 ∷ 32 ∷ 53 ∷ 32 ∷ 49 ∷ 32 ∷ 50 ∷ 10 ∷ [])  -- refused 5 1 2

examples : (text_of A ≡ text_A) × (text_of G ≡ text_G) × (text_of B ≡ text_B)
unfolding text_of verdict_on monitor_text refusal_line header cell_lines row_lines cell_of cell_line stop_line those_below line rest decimal flat_up_to
    drawing_in trailer_of up_to framed classed ranged in_range placed first_of first_below first_cell entries members exceeds excess moves stopped_pairs
    stopped moves_out forbids forbids_some stops_by stops_by_some stopping_pairs stopping operations.value_of operations.smallest_of operations.reach_of
    operations.operation_pairs operations.operation_at reached_within spread moved_set moved_below with_moves target including insert has meets meets_below
    is_empty names_past value_of
examples = (refl, refl, refl)
