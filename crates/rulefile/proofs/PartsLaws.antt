-- What a file that was found sound has: the facts that callers of `parts` and `read` need.
-- Assumes nothing.
use mathlib.Core.Path.{◌≡◌, refl, sym, subst}
use mathlib.Core.List.{List}
use Prim.Native.Nat.{ℕ, ◌+◌, ◌-◌, ◌*◌, ◌≤◌}
use native.Mathlib.Omega.{arith}
use lib.ListN.{length, take, drop, length-drop}
use lib.Seq.{length-take-le}
use Rattle.rule.specs.Drawing.{no_pair, padded}
use Rattle.rule.specs.Range.{Classed, Ranged}
use Rattle.rule.specs.Refusals.{first_of, conditions}
use Rattle.rule.proofs.RefusalLaws.{first_sound}
use Rattle.rule.specs.declared.Refusal.{Refusal}
use Rattle.rule.specs.declared.Refusal.TheVariants.{Frame, Class, Range, Distance}
use Rattle.trailer.specs.Layout.{table_back, pairs_back}
use Rattle.trailer.proofs.SoundLaws.{Framed, framed_says, classed_says, ranged_says, Placed, placed_says, passed}
use Rattle.trailer.specs.Layout.{trailer_in}
use Rattle.rulefile.specs.Layout.{drawing_in}
use Rattle.rulefile.specs.Reading.{verdict_on, verdict_in, contents_of, parts_of}
use Rattle.rulefile.specs.declared.Contents.{Contents}
use Rattle.rulefile.proofs.ListLaws.{length_up_to, take_padded}
use Rattle.rulefile.proofs.WhenLaws.{when_verdict, when_ok, when_err}
use Rattle.std.specs.Prelude.{Ok, Err}

-- what the ten conditions leave
pub record SoundFile (f : List ℕ) : Type 0 where
  pub framed : Framed f
  pub classed : Classed (trailer_in f).shape
  pub ranged : Ranged (trailer_in f).shape
  pub placed : Placed (trailer_in f) (length f)
  pub sound : first_of (conditions (drawing_in f)) ≡ Ok tt

pub sound_file : (f : List ℕ) → verdict_on f ≡ Ok tt → SoundFile f
unfolding verdict_on
sound_file f e =
    let a = (first_sound _ _).0 e in
    let b = (first_sound _ _).0 a.1 in
    let c = (first_sound _ _).0 b.1 in
    let d = (first_sound _ _).0 c.1 in
    record {
      framed = (passed Frame (framed_says f)).0 a.0;
      classed = (passed Class (classed_says (trailer_in f).shape)).0 b.0;
      ranged = (passed Range (ranged_says (trailer_in f).shape)).0 c.0;
      placed = (passed Distance (placed_says (trailer_in f) (length f))).0 d.0;
      sound = d.1;
    }

-- what is drawn in a sound file
module _ (f : List ℕ) (s : SoundFile f) where
  pub shape_drawn : (drawing_in f).shape ≡ (trailer_in f).shape
  unfolding drawing_in
  shape_drawn = refl

  pub note_drawn : length (drawing_in f).note ≡ length f - table_back (trailer_in f).shape
  unfolding drawing_in
  note_drawn = length-take-le (length f - table_back (trailer_in f).shape) f (omega arith)

  pub table_drawn : length (drawing_in f).table ≡ (trailer_in f).shape.states * (trailer_in f).shape.events
  unfolding drawing_in
  table_drawn =
      let w = s.placed.within in
      length-take-le ((trailer_in f).shape.states * (trailer_in f).shape.events) (drop (length f - table_back (trailer_in f).shape) f)
      (rw length-drop (omega arith))

  pub pairs_drawn : length (drawing_in f).pairs ≡ (trailer_in f).shape.pairs
  unfolding drawing_in
  pairs_drawn = length_up_to _ (trailer_in f).shape.pairs

-- what looking at a sound file gives
pub record SoundParts (f : List ℕ) (p : Contents) : Type 0 where
  pub drawn : p.shape ≡ (drawing_in f).shape
  pub classed : Classed p.shape
  pub ranged : Ranged p.shape
  -- the note, the table, the pairs and the trailer stand one after the other
  pub note_in : p.start ≤ 1024
  pub table_ends : p.start + p.shape.states * p.shape.events ≡ p.end
  pub pairs_end : p.end + 16 * p.shape.pairs + 12 ≡ length f
  pub short : length f ≤ 3212
  -- and are those of the drawing
  pub note_is : take p.start f ≡ (drawing_in f).note
  pub table_is : take (p.end - p.start) (drop p.start f) ≡ (drawing_in f).table
  pub pairs_is : take p.shape.pairs p.pairs ≡ (drawing_in f).pairs
  pub pairs_padded : p.pairs ≡ padded 8 no_pair (drawing_in f).pairs
  pub note_long : length (drawing_in f).note ≡ p.start
  pub table_long : length (drawing_in f).table ≡ p.shape.states * p.shape.events
  pub pairs_long : length (drawing_in f).pairs ≡ p.shape.pairs
  -- which has none of the faults 5 to 9
  pub sound : first_of (conditions (drawing_in f)) ≡ Ok tt

-- the verdict that was found
pub parts_verdict : (f : List ℕ) → verdict_in (parts_of f) ≡ verdict_on f
unfolding parts_of
parts_verdict f = when_verdict (verdict_on f) (contents_of f)

-- what a sound file comes to
pub parts_of_sound : (f : List ℕ) → verdict_on f ≡ Ok tt → parts_of f ≡ Ok (contents_of f)
unfolding parts_of
parts_of_sound f e = rw e

module _ (f : List ℕ) where
  pub parts_refused : {r : Refusal} → Err r ≡ parts_of f → verdict_on f ≡ Err r
  unfolding parts_of
  parts_refused e = when_err (verdict_on f) (contents_of f) (sym e)

  pub parts_sound : {p : Contents} → Ok p ≡ parts_of f → verdict_on f ≡ Ok tt
  unfolding parts_of
  parts_sound e = (when_ok (verdict_on f) (contents_of f) (sym e)).0

  parts_are : {p : Contents} → Ok p ≡ parts_of f → contents_of f ≡ p
  unfolding parts_of
  parts_are e = (when_ok (verdict_on f) (contents_of f) (sym e)).1

parts_all : (f : List ℕ) → SoundFile f → SoundParts f (contents_of f)
unfolding drawing_in
parts_all f s =
    let h = (trailer_in f).shape in
    let w = s.placed.within in
    let cells : length f - pairs_back h - (length f - table_back h) ≡ h.states * h.events = between (length f) (16 * h.pairs) (h.states * h.events) w in
    record {
      drawn = refl;
      classed = s.classed;
      ranged = s.ranged;
      note_in = s.placed.note_in;
      table_ends = omega arith;
      pairs_end = omega arith;
      short = s.framed.short;
      note_is = refl;
      table_is = rw cells;
      pairs_is = take_padded 8 no_pair (drawing_in f).pairs h.pairs (pairs_drawn f s);
      pairs_padded = refl;
      note_long = note_drawn f s;
      table_long = table_drawn f s;
      pairs_long = pairs_drawn f s;
      sound = s.sound;
    }
  where
    between : (n p k : ℕ) → 12 + p + k ≤ n → n - (12 + p) - (n - (12 + p + k)) ≡ k
    between n p k h = omega arith

pub sound_parts : (f : List ℕ) {p : Contents} → Ok p ≡ parts_of f → SoundParts f p
sound_parts f {p} e = subst (λ (p : Contents). SoundParts f p) (parts_are f e) (parts_all f (sound_file f (parts_sound f e)))

-- where its note and its table stand
module _ (f : List ℕ) {p : Contents} (is : Ok p ≡ parts_of f) where
  pub table_order : p.start ≤ p.end
  table_order = omega (arith, (sound_parts f is).table_ends)

  pub table_inside : p.end ≤ length f
  table_inside = omega (arith, (sound_parts f is).pairs_end)

  pub note_inside : p.start ≤ length f
  note_inside = omega (arith, table_order, table_inside)

  pub note_taken : p.start ≡ length (take p.start f)
  note_taken = sym (length-take-le p.start f note_inside)
