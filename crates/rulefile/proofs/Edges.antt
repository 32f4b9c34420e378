-- The edges of the paper that belong to rule files: N 64 and 65, a note of 1,024 and 1,025 bytes, the shortest file, modes 1 and 2.
-- Assumes nothing.
use Prim.Native.Nat.{ℕ, ◌-◌, ◌≤◌, ◌<◌}
use native.Mathlib.Omega.{arith}
use native.Mathlib.Nat.{one-le-mul}
use mathlib.Core.Path.{◌≡◌, refl, ap, ◌∙◌}
use mathlib.Core.List.{List, [], ◌∷◌}
use lib.ListN.{length, replicate}
use Rattle.octets.specs.Numbers.{value_of, digits}
use Rattle.rule.specs.Sets.{has, insert, including, those, meets_below, meets, is_empty, names_past}
use Rattle.rule.specs.Reach.{target, spread, reached_within}
use Rattle.rule.specs.Acceptance.{meets_pair, meets_all, good_of}
use Rattle.rule.specs.Operations.{reach_of}
use Rattle.rule.specs.Classes.{moves_into, forbids, forbids_some}
use Rattle.rule.specs.Stopping.{stops_by, stopping_joint}
use Rattle.rule.specs.Drawing.{state_no}
use Rattle.rule.specs.Range.{in_range, under, over, bad_N, bad_K, bad_initial}
use Rattle.rule.specs.Refusals.{first_of, first_below, first_cell, entries, members, exceeds, excess, moves, stopped_pairs, stopped_joint, stopped}
use Rattle.rule.specs.Given.{here}
use Rattle.rule.specs.declared.Rule.{Rule}
use Rattle.rule.specs.declared.Shape.{Shape}
use Rattle.rule.specs.declared.Refusal.TheVariants.{Frame, Range, Distance}
use Rattle.rule.proofs.SetLaws.{below_or}
use Rattle.rule.proofs.TableLaws.{NoneOf, own_row, behind}
use Rattle.trailer.specs.Layout.{table_back, pairs_back}
use Rattle.trailer.specs.Conditions.{framed, classed, ranged, placed}
use Rattle.trailer.specs.Layout.{trailer_of, trailer_in, trailer_out}
use Rattle.rulefile.specs.Layout.{up_to, flat_up_to, drawing_in, file_of}
use Rattle.rulefile.specs.Reading.{verdict_on, verdict_in, reading_of}
use Rattle.rulefile.specs.Given.{bad_size, BadRange, bad_numbers, bad_m, byte_5, not_one, to_table, to_pairs, short}
use Rattle.rulefile.specs.Given.{note, Reading, at_1, at_3, at_4, drawing}
use Rattle.rulefile.proofs.GivenLaws.{file_within, read_gives, read_sound}
use Rattle.rulefile.proofs.RoundTrips.{read_rule}
use Rattle.std.specs.Prelude.{Ok, Err}

-- by computation, on the file of a rule of n states that stay where they are, with a note of k bytes and a mode

unfoldable pub sample_in : ℕ → ℕ → ℕ → List ℕ
sample_in mode n k =
    file_of (record {
      shape = record { class = 1; states = n; events = 1; pairs = 1; initial = state_no 0; mode = mode };
      note = replicate k 0;
      table = up_to (λ s. s) n;
      pairs = record { r = 0; p = 1 } ∷ [];
    })

abbrev pub sample : ℕ → ℕ → List ℕ
sample n k = sample_in 0 n k

pub record Samples : Type 0 where
  pub states_64 : verdict_in (reading_of (sample 64 0)) ≡ Ok tt
  pub states_65 : reading_of (sample 65 0) ≡ Err Range
  pub note_1024 : verdict_in (reading_of (sample 1 1024)) ≡ Ok tt
  pub note_1025 : reading_of (sample 1 1025) ≡ Err Distance
  pub shortest : verdict_in (reading_of (sample 1 0)) ≡ Ok tt
  pub bytes : length (sample 1 0) ≡ 29
  pub mode_1 : verdict_in (reading_of (sample_in 1 1 0)) ≡ Ok tt
  pub mode_2 : reading_of (sample_in 2 1 0) ≡ Err Range

pub samples : Samples
unfolding sample_in reading_of verdict_on file_of first_of first_below first_cell entries members exceeds excess moves stopped_pairs stopped_joint stopped
    trailer_of drawing_in up_to flat_up_to framed classed ranged in_range placed trailer_out value_of digits has is_empty names_past target moves_into
    forbids forbids_some stops_by stopping_joint good_of meets_all meets_pair those insert including meets_below meets reach_of reached_within spread
samples = record { states_64 = refl; states_65 = refl; note_1024 = refl; note_1025 = refl; shortest = refl; bytes = refl; mode_1 = refl; mode_2 = refl }

-- of every file

-- a shape with another N
abbrev with_states : ℕ → Shape → Shape
with_states n s = record { class = s.class; states = n; events = s.events; pairs = s.pairs; initial = s.initial; mode = s.mode }

-- a shape that is in range still is with N 64
pub in_range_64 : (s : Shape) → (BadRange s → ⊥) → BadRange (with_states 64 s) → ⊥
in_range_64 s o (bad_numbers (bad_N (under h))) = omega arith
in_range_64 s o (bad_numbers (bad_N (over h))) = omega arith
in_range_64 s o (bad_numbers (bad_K h)) = o (bad_numbers (bad_K h))
in_range_64 s o (bad_m h) = o (bad_m h)
in_range_64 s o (bad_numbers (bad_initial h)) =
    below_or 64 s.states (λ k. o (bad_numbers (bad_N (over k)))) (λ k. o (bad_numbers (bad_initial (omega arith))))
in_range_64 s o (byte_5 h) = o (byte_5 h)
in_range_64 s o (not_one c h) = o (not_one c h)

module _ (f : List ℕ) where
  abbrev shape : Shape
  shape = (trailer_in f).shape

  -- N 65 is refused 3, where 1 and 2 are not given
  pub refused_65 : shape.states ≡ 65 → NoneOf (Reading f) (1 ∷ 2 ∷ []) → reading_of f ≡ Err Range
  unfolding drawing_in
  refused_65 e n = (read_gives f Range).1 ((behind (1 ∷ 2 ∷ []) _ n).0 (here (drawing (at_3 (bad_numbers (bad_N (over (omega arith))))))))

  -- the note: the bytes before the table
  abbrev note_size : ℕ
  note_size = length f - table_back shape

  -- a note of 1,024 is not refused 4, where the back distances are right
  pub not_refused_1024 : note_size ≡ 1024 → (trailer_in f).tableback ≡ table_back shape → (trailer_in f).pairsback ≡ pairs_back shape
      → reading_of f ≡ Err Distance → ⊥
  not_refused_1024 e t p v = bad (own_row (file_within f) ((read_gives f Distance).0 v))
    where
      bad : Reading f 4 Distance → ⊥
      bad (drawing (at_4 (to_table n))) = n t
      bad (drawing (at_4 (to_pairs n))) = n p
      bad (drawing (at_4 (short h))) = omega arith
      bad (drawing (at_4 (note h))) = omega arith

  -- one of 1,025 is, where 1 to 3 are not given
  pub refused_1025 : note_size ≡ 1025 → NoneOf (Reading f) (1 ∷ 2 ∷ 3 ∷ []) → reading_of f ≡ Err Distance
  refused_1025 e n = (read_gives f Distance).1 ((behind (1 ∷ 2 ∷ 3 ∷ []) _ n).0 (here (drawing (at_4 (note (omega arith))))))

  -- and a file that passes 3,212 bytes is refused 1
  pub refused_3213 : 3212 < length f → reading_of f ≡ Err Frame
  refused_3213 h = (read_gives f Frame).1 (here (at_1 (bad_size (over h))))

  -- no file under 29 bytes is sound
  pub at_least_29 : {r : Rule} → reading_of f ≡ Ok r → 29 ≤ length f
  unfolding drawing_in
  at_least_29 e =
      let no_row = (read_sound f).0 (e ∙ ap Ok (read_rule f e)) in
      let N : 1 ≤ shape.states = below_or shape.states 1 (λ h. absurd (no_row 3 Range (drawing (at_3 (bad_numbers (bad_N (under h))))))) (λ h. h) in
      let K : 1 ≤ shape.events = below_or shape.events 1 (λ h. absurd (no_row 3 Range (drawing (at_3 (bad_numbers (bad_K (under h))))))) (λ h. h) in
      let m : 1 ≤ shape.pairs = below_or shape.pairs 1 (λ h. absurd (no_row 3 Range (drawing (at_3 (bad_m (under h)))))) (λ h. h) in
      below_or (length f) (table_back shape) (λ h. absurd (no_row 4 Distance (drawing (at_4 (short h))))) (λ h. omega (arith, one-le-mul N K))
