-- Sound drawings: those of sound files and of sound rules by value, and the rule by value that a sound drawing is.
-- Assumes nothing.
use Prim.Native.Nat.{ℕ, ◌*◌, ◌≤◌}
use mathlib.Core.Path.{◌≡◌, refl}
use mathlib.Core.List.{List, ◌++◌}
use lib.ListN.{length}
use lib.Seq.{length-take-le}
use borrow.Author.Tests.{le-leb}
use Rattle.rule.specs.Drawing.{Drawing, states, events, count, no_pair, drawn, rule_of}
use Rattle.rule.specs.Range.{Classed, Ranged}
use Rattle.rule.specs.Refusals.{first_of, conditions}
use Rattle.rule.specs.declared.Rule.{Rule}
use Rattle.rule.proofs.RefusalLaws.{first_append, else_sound}
use Rattle.trailer.proofs.SoundLaws.{classed_says, ranged_says, cells_in}
use Rattle.rulefile.specs.Layout.{drawing_in}
use Rattle.rulefile.specs.Writing.{measure_conditions, verdict_of, Held}
use Rattle.rulefile.proofs.ListLaws.{length_padded, take_padded}
use Rattle.rulefile.proofs.PartsLaws.{SoundFile, shape_drawn, note_drawn}
use Rattle.rulefile.proofs.WritingLaws.{measured_sound}
use Rattle.rulefile.proofs.WellLaws.{file_table, file_pairs}
use Rattle.rule.specs.Verdict.{Verdict}
use Rattle.std.specs.Prelude.{Ok}

-- both parts of a list of conditions are sound where all of it is
append_sound : (vs ws : List Verdict) → first_of (vs ++ ws) ≡ Ok tt → (first_of vs ≡ Ok tt) × (first_of ws ≡ Ok tt)
append_sound vs ws e = (else_sound (first_of vs) (first_of ws)).0 (rw first_append at e)

-- a drawing that has all its parts and that no check refuses
pub record SoundDrawing (d : Drawing) : Type 0 where
  pub class : Classed d.shape
  pub range : Ranged d.shape
  pub note_in : length d.note ≤ 1024
  pub table_whole : length d.table ≡ states d * events d
  pub pairs_whole : length d.pairs ≡ count d
  pub passes : first_of (conditions d) ≡ Ok tt

-- the drawing of a sound file is sound
pub file_drawing : (f : List ℕ) → SoundFile f → SoundDrawing (drawing_in f)
file_drawing f s =
    record {
      class = rw (shape_drawn f s) s.classed;
      range = rw (shape_drawn f s) s.ranged;
      note_in = rw (note_drawn f s) s.placed.note_in;
      table_whole = file_table f s;
      pairs_whole = file_pairs f s;
      passes = s.sound;
    }

-- the drawing of a rule by value is sound where the rule is
pub rule_drawing : (r : Rule) → Held r → verdict_of r ≡ Ok tt → SoundDrawing (drawn r)
unfolding drawn verdict_of
rule_drawing r h e =
    let p = append_sound (measure_conditions r.shape r.length) (conditions (drawn r)) e in
    let m = measured_sound r.shape r.length p.0 in
    record {
      class = m.classed;
      range = m.ranged;
      note_in = rw (length-take-le r.length r.note (rw h.note_long m.note_in)) m.note_in;
      table_whole = length-take-le _ r.table (rw h.table_long (cells_in m.ranged));
      pairs_whole = length-take-le r.shape.pairs r.pairs (rw h.pairs_long m.ranged.few_pairs);
      passes = p.1;
    }

-- a sound drawing and the rule by value that it is
module _ (d : Drawing) (s : SoundDrawing d) where
  -- the rule's drawing is the drawing
  pub drawn_rule : drawn (rule_of d) ≡ d
  unfolding drawn rule_of
  drawn_rule =
      rw (take_padded 1024 0 d.note _ refl, take_padded 2048 0 d.table _ s.table_whole, take_padded 8 no_pair d.pairs _ s.pairs_whole)

  -- it carries its arrays whole
  pub rule_held : Held (rule_of d)
  unfolding rule_of
  rule_held =
      record {
        note_long = length_padded 1024 0 d.note s.note_in;
        table_long = length_padded 2048 0 d.table (rw s.table_whole (cells_in s.range));
        pairs_long = length_padded 8 no_pair d.pairs (rw s.pairs_whole s.range.few_pairs);
      }

  -- no check refuses it
  pub rule_sound : verdict_of (rule_of d) ≡ Ok tt
  unfolding verdict_of first_of rule_of
  rule_sound =
      rw (drawn_rule, (classed_says d.shape).1 s.class, (ranged_says d.shape).1 s.range, le-leb (length d.note) 1024 s.note_in) s.passes
