-- The paper's table "Refusal numbers", for a call on a rule file or a rule: the rows 1 to 4 in plain words, and then the tables.
-- Assumes nothing.
use Rattle.std.specs.Prelude.{ℕ, ◌-◌, ◌<◌, ◌≡◌, List, [], ◌∷◌, ◌++◌, ◌⊎◌, length, get_or, drop}
use Rattle.rule.specs.Drawing.{Drawing, drawn}
use Rattle.rule.specs.Range.{rule_limits, most_pairs, last_mode, longest_note, Outside, OutOfRange}
use Rattle.rule.specs.Refusals.{conditions_order}
use Rattle.rule.specs.Putting.{Put, put_order}
use Rattle.rule.specs.Given.{Table, NoRows, FirstCell, BadEntry, BadMember, TooMuch, Forbidden, StoppedBy}
use Rattle.rule.specs.declared.Rule.{Rule}
use Rattle.rule.specs.declared.StateNo.{StateNo}
use Rattle.rule.specs.declared.EventNo.{EventNo}
use Rattle.rule.specs.declared.Shape.{Shape}
use Rattle.rule.specs.declared.Refusal.{Refusal}
use Rattle.rule.specs.declared.Refusal.TheVariants.{Frame, Class, Range, Distance, Entry, Member, Excess, Move, Stopping}
use Rattle.trailer.specs.Layout.{table_back, pairs_back, trailer_size, longest_file, trailer_in}
use Rattle.trailer.specs.Conditions.{head_order}
use Rattle.trailer.specs.declared.Trailer.{Trailer}
use Rattle.rulefile.specs.Layout.{drawing_in, file_of}

-- byte i of a file's trailer
abbrev pub trailer_byte : List ℕ → ℕ → ℕ
trailer_byte f i = get_or (drop (length f - trailer_size) f) i 0

-- 1: under 12 or over 3,212 bytes, or bytes 10-11 wrong
pub data BadFrame (f : List ℕ) : Type 0 where
  bad_size : Outside trailer_size longest_file (length f) → BadFrame f
  byte_10 : (trailer_byte f 10 ≡ 72 → ⊥) → BadFrame f
  byte_11 : (trailer_byte f 11 ≡ 82 → ⊥) → BadFrame f

-- 2: class not 1 to 4
abbrev pub BadClass : Shape → Type 0
BadClass s = Outside 1 4 s.class

-- 3: N, K, m out of range, initial state >= N, byte 5 not 0 or 1, or m not 1 in class 1, 2, 4
pub data BadRange (s : Shape) : Type 0 where
  bad_numbers : OutOfRange rule_limits s.states s.events s.initial.0 → BadRange s
  bad_m : Outside 1 most_pairs s.pairs → BadRange s
  byte_5 : last_mode < s.mode → BadRange s
  not_one : (s.class ≡ 1) ⊎ (s.class ≡ 2) ⊎ (s.class ≡ 4) → (s.pairs ≡ 1 → ⊥) → BadRange s

-- 4: a back distance is wrong, the file is shorter than the table's distance, or the note is over 1,024
abbrev pub LongNote : ℕ → Type 0
LongNote length = longest_note < length

pub data BadDistance (t : Trailer) (size : ℕ) : Type 0 where
  to_table : (t.tableback ≡ table_back t.shape → ⊥) → BadDistance t size
  to_pairs : (t.pairsback ≡ pairs_back t.shape → ⊥) → BadDistance t size
  short : size < table_back t.shape → BadDistance t size
  note : LongNote (size - table_back t.shape) → BadDistance t size

-- the numbers that a rule's drawing can give, in order of checking
abbrev pub drawing_order : List ℕ
drawing_order = head_order ++ conditions_order

-- the table's rows on the rule that is drawn, and what row 4 says in the call: number, refusal with its places A and B, when
pub data DrawingRow (d : Drawing) (bad-distance : Type 0) : ℕ → Refusal → Type 0 where
  at_2 : BadClass d.shape → DrawingRow d bad-distance 2 Class
  at_3 : BadRange d.shape → DrawingRow d bad-distance 3 Range
  at_4 : bad-distance → DrawingRow d bad-distance 4 Distance
  at_5 : {s : StateNo} {e : EventNo} → FirstCell d (BadEntry d) s.0 e.0 → DrawingRow d bad-distance 5 (Entry s e)
  at_6 : {i side : ℕ} → BadMember d i side → DrawingRow d bad-distance 6 (Member i side)
  at_7 : TooMuch d → DrawingRow d bad-distance 7 Excess
  at_8 : {s : StateNo} {e : EventNo} → FirstCell d (Forbidden d) s.0 e.0 → DrawingRow d bad-distance 8 (Move s e)
  at_9 : {i : ℕ} → StoppedBy d i → DrawingRow d bad-distance 9 (Stopping i)

-- reading gives 1 to 9
abbrev pub reading_order : List ℕ
reading_order = 1 ∷ drawing_order

pub data Reading (f : List ℕ) : ℕ → Refusal → Type 0 where
  at_1 : BadFrame f → Reading f 1 Frame
  drawing : {n : ℕ} {x : Refusal} → DrawingRow (drawing_in f) (BadDistance (trailer_in f) (length f)) n x → Reading f n x

-- writing a rule gives 2, 3, 4 for the note only, 5 to 9, then 16
abbrev pub writing_order : List ℕ
writing_order = put_order drawing_order

abbrev pub Writing : Rule → ℕ → Table
Writing r room = Put (DrawingRow (drawn r) (LongNote r.length)) (length (file_of (drawn r))) room

-- putting a drawing's file looks at nothing: 16 where it does not fit
abbrev pub filing_order : List ℕ
filing_order = put_order []

abbrev pub Filing : Drawing → ℕ → Table
Filing d room = Put NoRows (length (file_of d)) room
