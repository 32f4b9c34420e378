-- The conditions 1 to 4 in order: the frame of a rule file, and what its trailer says.
-- Assumes nothing.
use Rattle.std.specs.Prelude.{ℕ, ◌-◌, Bool, not, ◌&&◌, ◌||◌, List, [], ◌∷◌, length, get_or, leb, eqb}
use Rattle.rule.specs.Range.{rule_limits, most_pairs, last_mode, longest_note, between, in_range}
use Rattle.rule.specs.Refusals.{refuse_if}
use Rattle.rule.specs.declared.Shape.{Shape}
use Rattle.rule.specs.declared.Refusal.TheVariants.{Frame, Class, Range, Distance}
use Rattle.trailer.specs.Layout.{trailer_size, longest_file, pairs_back, table_back}
use Rattle.trailer.specs.declared.Trailer.{Trailer}
use Rattle.rule.specs.Verdict.{Verdict}

-- 1: under 12 or over 3,212 bytes, or bytes 10-11 of the trailer wrong
unfoldable pub framed : List ℕ → Bool
framed f =
    leb trailer_size (length f) && (leb (length f) longest_file && (eqb (get_or f (length f - 2) 0) 72 && eqb (get_or f (length f - 1) 0) 82))

abbrev pub frame : List ℕ → Verdict
frame f = refuse_if (not (framed f)) Frame

-- 2: class not 1 to 4
unfoldable pub classed : Shape → Bool
classed s = between 1 4 s.class

abbrev pub class : Shape → Verdict
class s = refuse_if (not (classed s)) Class

-- 3: N, K, m out of range, initial state >= N, byte 5 not 0 or 1, or m not 1 in class 1, 2, 4
unfoldable pub ranged : Shape → Bool
ranged s =
    in_range rule_limits s.states s.events s.initial.0
    && (between 1 most_pairs s.pairs && (leb s.mode last_mode && (eqb s.class 3 || eqb s.pairs 1)))

abbrev pub range : Shape → Verdict
range s = refuse_if (not (ranged s)) Range

-- 4: a back distance is wrong, the file is shorter than the table's distance, or the note is over 1,024
unfoldable pub placed : Trailer → ℕ → Bool
placed t size =
    eqb t.pairsback (pairs_back t.shape) && (eqb t.tableback (table_back t.shape)
    && (leb (table_back t.shape) size && leb (size - table_back t.shape) longest_note))

abbrev pub distance : Trailer → ℕ → Verdict
distance t size = refuse_if (not (placed t size)) Distance

-- the conditions of a shape, and of a trailer in a file of so many bytes, with their numbers
abbrev pub shape_conditions : Shape → List Verdict
shape_conditions s = class s ∷ range s ∷ []

abbrev pub shape_order : List ℕ
shape_order = 2 ∷ 3 ∷ []

abbrev pub head_conditions : Trailer → ℕ → List Verdict
head_conditions t size = class t.shape ∷ range t.shape ∷ distance t size ∷ []

abbrev pub head_order : List ℕ
head_order = 2 ∷ 3 ∷ 4 ∷ []
