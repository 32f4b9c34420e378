-- The refusal numbers, and the conditions 5 to 9, which are said of a drawing, with their places.
-- Assumes nothing.
use Rattle.std.specs.Prelude.{ℕ, zero, suc, ◌≡◌, Bool, true, false, cond, ◌&&◌, ◌||◌, not, List, [], ◌∷◌, leb, eqb, Ok, Err}
use Rattle.rule.specs.Sets.{is_empty, names_past}
use Rattle.rule.specs.Drawing.{Drawing, states, events, count, initial, next, pair_at, joint, state_no, event_no}
use Rattle.rule.specs.Operations.{reach_of}
use Rattle.rule.specs.Stopping.{stops_by, stopping_joint}
use Rattle.rule.specs.Classes.{forbids_some}
use Rattle.rule.specs.declared.Told.{Told}
use Rattle.rule.specs.declared.Refusal.{Refusal}
use Rattle.rule.specs.declared.Refusal.TheVariants.{Frame, Class, Range, Distance, Entry, Member, Excess, Move, Stopping, Sheet, Run}
use Rattle.rule.specs.declared.Refusal.TheVariants.{Code, Cell, Memory, Room, Book, Missing, Log, Full}
use Rattle.rule.specs.Verdict.{Verdict}

abbrev pub tell : ℕ → ℕ → ℕ → Told
tell number a b = record { number = number; a = a; b = b }

-- the paper's number and places of each refusal; 0 where a place is not named. 10 is never given (specs/NoTen) and stays unused: who has the paper's list
-- would read another refusal as that one
abbrev pub told_of : Refusal → Told
told_of Frame = tell 1 0 0
told_of Class = tell 2 0 0
told_of Range = tell 3 0 0
told_of Distance = tell 4 0 0
told_of (Entry s e) = tell 5 s.0 e.0
told_of (Member i side) = tell 6 i side
told_of Excess = tell 7 0 0
told_of (Move s e) = tell 8 s.0 e.0
told_of (Stopping i) = tell 9 i 0
told_of Sheet = tell 11 0 0
told_of Run = tell 12 0 0
told_of Code = tell 13 0 0
told_of (Cell s e) = tell 14 s.0 e.0
told_of Memory = tell 15 0 0
told_of Room = tell 16 0 0
told_of (Book which) = tell 17 which 0
told_of Missing = tell 18 0 0
told_of Log = tell 19 0 0
told_of Full = tell 26 0 0

-- what a verdict tells: 0 where it is sound, else the refusal's number and places
abbrev pub verdict_told : Verdict → Told
verdict_told (Ok _) = tell 0 0 0
verdict_told (Err r) = told_of r

-- n is one of these numbers; the refusal has one of them
abbrev pub among : ℕ → List ℕ → Bool
among n [] = false
among n (m ∷ l) = eqb n m || among n l

pub record Numbered (numbers : List ℕ) (r : Refusal) : Type 0 where
  pub one_of : among (told_of r).number numbers ≡ true

-- refused where the condition holds
abbrev pub refuse_if : Bool → Refusal → Verdict
refuse_if true r = Err r
refuse_if false r = Ok tt

-- the first verdict, or where it is sound the second
abbrev pub or_else : Verdict → Verdict → Verdict
or_else (Ok _) v = v
or_else (Err r) v = Err r

-- the first refusal in a list of verdicts
unfoldable pub first_of : List Verdict → Verdict
first_of [] = Ok tt
first_of (v ∷ vs) = or_else v (first_of vs)

-- the first refusal among f 0, f 1, .. below n
unfoldable pub first_below : (ℕ → Verdict) → ℕ → Verdict
first_below f zero = Ok tt
first_below f (suc n) = or_else (first_below f n) (f n)

-- the first refusal among the cells of n states and k events, in row order
unfoldable pub first_cell : (ℕ → ℕ → Verdict) → ℕ → ℕ → Verdict
first_cell f n k = first_below (λ s. first_below (f s) k) n

-- 5: a table entry >= N; state and event of the first offending cell in row order
abbrev pub entry_at : Drawing → ℕ → ℕ → Verdict
entry_at d s e = refuse_if (leb (states d) (next d s e)) (Entry (state_no s) (event_no e))

unfoldable pub entries : Drawing → Verdict
entries d = first_cell (entry_at d) (states d) (events d)

-- 6: a used pair names a state >= N; the lowest such pair, and 0 if R does, 1 if only P
abbrev pub member_at : Drawing → ℕ → Verdict
member_at d i =
    or_else (refuse_if (names_past (states d) (pair_at d i).r) (Member i 0))
    (refuse_if (names_past (states d) (pair_at d i).p) (Member i 1))

unfoldable pub members : Drawing → Verdict
members d = first_below (member_at d) (count d)

-- 7: class 1 with R not empty, class 2 or 4 with P not empty
unfoldable pub exceeds : Drawing → Bool
exceeds d =
    (eqb d.shape.class 1 && not (is_empty (pair_at d 0).r))
    || ((eqb d.shape.class 2 || eqb d.shape.class 4) && not (is_empty (pair_at d 0).p))

unfoldable pub excess : Drawing → Verdict
excess d = refuse_if (exceeds d) Excess

-- 8: a move that the class forbids; state and event, first in row order over the used pairs
abbrev pub move_at : Drawing → ℕ → ℕ → Verdict
move_at d s e = refuse_if (forbids_some d.shape.class d.pairs s (next d s e)) (Move (state_no s) (event_no e))

unfoldable pub moves : Drawing → Verdict
moves d = first_cell (move_at d) (states d) (events d)

-- 9: the initial state is stopping; the lowest pair by which it is
abbrev pub stop_at : Drawing → ℕ → Verdict
stop_at d i = refuse_if (stops_by (pair_at d i) (reach_of d (initial d)) (initial d)) (Stopping i)

unfoldable pub stopped_pairs : Drawing → Verdict
stopped_pairs d = first_below (stop_at d) (count d)

-- in joint mode the same pair, and m where no single pair is at fault
unfoldable pub stopped_joint : Drawing → Verdict
stopped_joint d = cond (stopping_joint d (initial d)) (or_else (stopped_pairs d) (Err (Stopping (count d)))) (Ok tt)

unfoldable pub stopped : Drawing → Verdict
stopped d = cond (joint d) (stopped_joint d) (stopped_pairs d)

-- the conditions 5 to 9 in order, and their numbers
abbrev pub conditions : Drawing → List Verdict
conditions d = entries d ∷ members d ∷ excess d ∷ moves d ∷ stopped d ∷ []

abbrev pub conditions_order : List ℕ
conditions_order = 5 ∷ 6 ∷ 7 ∷ 8 ∷ 9 ∷ []
