-- The two modes compare as specs/Modes says. Assumes nothing.
use Prim.Native.Nat.{ℕ, suc, ◌≤◌, ◌<◌}
use native.Mathlib.Omega.{arith}
use mathlib.Core.Path.{◌≡◌, refl, sym, ap, ◌∙◌}
use mathlib.Core.List.{List, [], ◌∷◌, map}
use lib.ListN.{length, get_or}
use Rattle.std.specs.Prelude.{Result, Ok, Err}
use Rattle.octets.specs.Numbers.{value_of, digits}
use Rattle.rule.specs.Sets.{has, insert, including, those, meets_below, meets, is_empty, names_past}
use Rattle.rule.specs.Reach.{target, with_moves, moved_below, moved_set, spread, reached_within}
use Rattle.rule.specs.Drawing.{Drawing, states, count, next, in_mode}
use Rattle.rule.specs.Acceptance.{meets_pair, meets_all, good_of}
use Rattle.rule.specs.Operations as paper
use Rattle.rule.specs.Operations.{smallest_of, reach_of, operation_pairs, operation_joint, operation_at}
use Rattle.rule.specs.Stopping.{stops_by, stopping_joint}
use Rattle.rule.specs.Classes.{moves_into, moves_out, forbids, forbids_some}
use Rattle.rule.specs.Range.{last_mode, in_range}
use Rattle.rule.specs.Refusals.{first_of, first_below, first_cell, entries, members, exceeds, excess, moves, stopped_pairs, stopped_joint, stopped}
use Rattle.rule.specs.Refusals.{conditions}
use Rattle.rule.specs.WellDrawn.{WellDrawn}
use Rattle.rule.specs.Putting.{settled_by}
use Rattle.rule.specs.Verdict.{Verdict, Written}
use Rattle.rule.specs.declared.Operation.{Operation}
use Rattle.rule.specs.declared.Operation.TheVariants.{Halt, Store, Dump}
use Rattle.rule.specs.declared.Refusal.{Refusal}
use Rattle.rule.proofs.OperationLaws.{operation_dump}
use Rattle.rule.proofs.ModeLaws.{well_in, one_pair_same, halts_jointly, one_pair_passes, joint_passes}
use Rattle.trailer.specs.Conditions.{framed, classed, ranged, placed}
use Rattle.trailer.specs.Layout.{trailer_of, trailer_out}
use Rattle.rulefile.specs.Layout.{up_to, drawing_in, flat_up_to, file_of}
use Rattle.rulefile.specs.Reading.{verdict_on}
use Rattle.rulefile.proofs.PartsLaws.{sound_file}
use Rattle.rulefile.proofs.WellLaws.{file_shaped, file_well}
use Rattle.rulefile.proofs.DrawnLaws.{SoundDrawing, file_drawing}
use Rattle.rulefile.proofs.FileLaws.{drawing_read, file_sound}
use Rattle.sheet.specs.Layout.{cell_of, sheet_of}
use Rattle.making.proofs.MakingLaws.{Formed, low}
use Rattle.making.proofs.FoundLaws.{sound_formed}
use Rattle.why.specs.Grounds.{lost_pair, wanted_pair, way_told}
use Rattle.why.specs.Why.{why_verdict, ground_by, GroundPromise, WhyPromise}
use Rattle.why.specs.declared.Ground.{Ground}
use Rattle.why.proofs.OnePairLaws.{one_operation, one_lost, one_told}
use Rattle.why.proofs.AnswerLaws.{accepted}
use Rattle.demands.specs.Modes.{file_in, Alike, halted, held, released, refused, Modes, NotBack}

-- lists that are mapped alike are equal
map_alike : (f g : ℕ → ℕ) (l : List ℕ) → ((i : ℕ) → i < length l → f (get_or l i 0) ≡ g (get_or l i 0)) → map f l ≡ map g l
map_alike f g [] same = refl
map_alike f g (x ∷ l) same = rw (same 0 (omega arith), map_alike f g l (λ i h. same (suc i) (omega arith)))

-- with one pair the cells are the same in every mode
one_sheet : (d : Drawing) → Formed d → (mode : ℕ) → ((t : ℕ) → t < states d → operation_at (in_mode mode d) t ≡ operation_at d t)
    → sheet_of (in_mode mode d) ≡ sheet_of d
unfolding sheet_of
one_sheet d formed mode same =
    rw (map_alike (cell_of (in_mode mode d)) (cell_of d) d.table (λ i h. rw (same (get_or d.table i 0) (low formed i))))

-- two answers that differ in the pair that a store names are alike
alike_by : (w : Written) (o : Operation) (l i j : ℕ) → Alike (ground_by w o l i) (ground_by w o l j)
alike_by (Err r) o l i j = refused
alike_by (Ok n) Halt l i j = halted
alike_by (Ok n) Store l i j = held
alike_by (Ok n) Dump l i j = released

-- with one pair the answers to why are alike in every mode
module _ (d : Drawing) (well : WellDrawn d) (one : count d ≡ 1) (mode t : ℕ) {out out' out'' : List ℕ} {g g' : Result Ground Refusal} where
  one_why : (v : Verdict) → (v ≡ Ok tt → t < states d) → GroundPromise v d t out g out' → GroundPromise v (in_mode mode d) t out g' out''
      → Alike g g' × (out' ≡ out'')
  one_why (Err r) low p q =
      (rw (p.answer, q.answer, p.put.answer, q.put.answer) refused, p.put.output ∙ sym q.put.output)
  one_why (Ok tt) low p q =
      let h = low refl in
      let told = one_told d well one mode t h in
      let w = settled_by (Ok tt) (length (way_told d t)) (length out) in
      let same : settled_by (Ok tt) (length (way_told (in_mode mode d) t)) (length out) ≡ w = rw told in (
        rw (p.answer, q.answer, p.put.answer, q.put.answer, same, one_operation d well one mode t h, one_lost d well one mode t h)
            (alike_by w (operation_at d t) (lost_pair d t) (wanted_pair d t) (wanted_pair (in_mode mode d) t)),
        p.put.output ∙ sym (q.put.output ∙ rw told),
      )

module _ (f : List ℕ) (sound : verdict_on f ≡ Ok tt) where
  abbrev d : Drawing
  d = drawing_in f

  drawing : SoundDrawing d
  drawing = file_drawing f (sound_file f sound)

  -- in another mode, where that passes the checks 5 to 9
  sound_in : (mode : ℕ) → mode ≤ last_mode → first_of (conditions (in_mode mode d)) ≡ Ok tt → SoundDrawing (in_mode mode d)
  sound_in mode known passes =
      let r = drawing.range in
      record {
        class = record { low = drawing.class.low; high = drawing.class.high };
        range = record { numbers = r.numbers; some_pairs = r.some_pairs; few_pairs = r.few_pairs; mode_in = known; one_pair = r.one_pair };
        note_in = drawing.note_in;
        table_whole = drawing.table_whole;
        pairs_whole = drawing.pairs_whole;
        passes = passes;
      }

  one_pair_in : count d ≡ 1 → (mode : ℕ) → mode ≤ last_mode → SoundDrawing (in_mode mode d)
  one_pair_in one mode known =
      sound_in mode known (one_pair_passes d drawing.pairs_whole (file_shaped f (sound_file f sound)) drawing.passes one mode)

  well : WellDrawn d
  well = file_well f (sound_file f sound)

  -- asked of both files
  module _ (one : count d ≡ 1) (mode : ℕ) (known : mode ≤ last_mode) (s e : ℕ) where
    read : drawing_in (file_in mode f) ≡ in_mode mode d
    read = drawing_read (in_mode mode d) (one_pair_in one mode known)

    same_verdict : why_verdict (file_in mode f) s e ≡ why_verdict f s e
    unfolding why_verdict
    same_verdict = rw (file_sound (in_mode mode d) (one_pair_in one mode known), sound, read)

    both_why : (out : List ℕ) (g g' : Result Ground Refusal) (out' out'' : List ℕ) → WhyPromise f s e out g out' → WhyPromise (file_in mode f) s e out g' out''
        → Alike g g' × (out' ≡ out'')
    both_why out g g' out' out'' p q =
        one_why d well one mode (next d s e) (why_verdict f s e)
        (λ v. let a = accepted f s e v in well.closed s e a.state_in a.event_in) p (rw (same_verdict, read) at q)

  pub modes : Modes f
  modes = record {
    one_pair_sound = λ one mode known. file_sound (in_mode mode d) (one_pair_in one mode known);
    one_pair_sheet = λ one mode known.
        ap sheet_of (drawing_read (in_mode mode d) (one_pair_in one mode known)) ∙ one_sheet d (sound_formed f sound) mode (one_pair_same d well one mode);
    one_pair_why = both_why;
    joint_sound = λ j. file_sound (in_mode 0 d)
        (sound_in 0 (omega arith) (joint_passes d drawing.pairs_whole (file_shaped f (sound_file f sound)) drawing.passes j));
    dumps = λ q e h k.
        let t = next d q e in
        let in-t = well.closed q e h k in
        let one = operation_dump (in_mode 0 d) (well_in d well 0) t in-t in
        let other = operation_dump (in_mode 1 d) (well_in d well 1) t in-t in
        (λ p. other.1 (one.0 p), λ p. one.1 (other.0 p));
    halts = λ q e h k. halts_jointly d well (next d q e) (well.closed q e h k);
  }

pub not_back : NotBack
unfolding file_of flat_up_to trailer_out digits drawing_in trailer_of up_to value_of verdict_on first_of framed classed ranged in_range placed first_below
    first_cell entries members exceeds excess moves stopped_pairs stopped_joint stopped names_past is_empty has insert including those meets_below meets
    target with_moves moved_below moved_set spread reached_within reach_of stops_by stopping_joint good_of meets_all meets_pair moves_into moves_out
    forbids forbids_some operation_at operation_pairs operation_joint smallest_of paper.value_of
not_back = record { stored = refl; halted = refl; refused = refl }
