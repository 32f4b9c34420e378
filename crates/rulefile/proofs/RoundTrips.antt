-- The two round trips: a sound rule file that is read and written comes back byte for byte, and a rule that is written and read is the same rule.
-- Assumes nothing.
use Prim.Native.Nat.{ℕ, ◌≤◌}
use mathlib.Core.Path.{◌≡◌, refl, sym, ap, ◌∙◌}
use mathlib.Core.List.{List, ◌++◌}
use lib.ListN.{length, take, drop}
use Rattle.octets.specs.Numbers.{Bytes}
use Rattle.rule.specs.Drawing.{drawn, Same, rule_of}
use Rattle.rule.specs.declared.Rule.{Rule}
use Rattle.rulefile.specs.Layout.{drawing_in, file_of}
use Rattle.rulefile.specs.Reading.{verdict_on, reading_of}
use Rattle.rulefile.specs.Writing.{verdict_of, Held, WritePromise}
use Rattle.rulefile.proofs.PartsLaws.{SoundFile, sound_file}
use Rattle.rulefile.proofs.WhenLaws.{when_ok}
use Rattle.rule.proofs.PutLaws.{put_done, put_room}
use Rattle.rulefile.proofs.DrawnLaws.{SoundDrawing, file_drawing, rule_drawing, drawn_rule, rule_held, rule_sound}
use Rattle.rulefile.proofs.FileLaws.{file_read, file_back}
use Rattle.rule.specs.Verdict.{Written}
use Rattle.std.specs.Prelude.{Ok}

-- read, then written

module _ (f : List ℕ) {r : Rule} (e : reading_of f ≡ Ok r) where
  -- the rule that is read is what is drawn in the file, with zeros in its unused places
  pub read_rule : r ≡ rule_of (drawing_in f)
  unfolding reading_of
  read_rule = sym (when_ok (verdict_on f) (rule_of (drawing_in f)) e).1

  file_facts : SoundFile f
  unfolding reading_of
  file_facts = sound_file f (when_ok (verdict_on f) (rule_of (drawing_in f)) e).0

  drawing_facts : SoundDrawing (drawing_in f)
  drawing_facts = file_drawing f file_facts

  -- so its drawing is the file's, and it carries its arrays whole
  pub read_drawing : drawn r ≡ drawing_in f
  read_drawing = ap drawn read_rule ∙ drawn_rule (drawing_in f) drawing_facts

  pub read_held : Held r
  read_held = rw read_rule (rule_held (drawing_in f) drawing_facts)

  -- writing does not refuse it
  pub read_sound : verdict_of r ≡ Ok tt
  read_sound = ap verdict_of read_rule ∙ rule_sound (drawing_in f) drawing_facts

  module _ (b : Bytes f) where
    -- its file is the file that was read
    pub read_file : file_of (drawn r) ≡ f
    read_file = ap file_of read_drawing ∙ file_back f b file_facts

    -- and where there is room for it, that is what writing leaves
    pub read_written : (out : List ℕ) → length f ≤ length out → (w : Written) (out' : List ℕ) → WritePromise r out w out'
        → (w ≡ Ok (length f)) × (out' ≡ f ++ drop (length f) out)
    read_written out h w out' p = put_room (Ok tt) f out w out' refl h (rw (read_sound, read_file) at p)

-- written, then read

module _ (r : Rule) (h : Held r) where
  -- the rule that a sound rule is read back as: the same rule, with zeros in its unused places
  pub same_rule : verdict_of r ≡ Ok tt → Same (rule_of (drawn r)) r
  same_rule e = drawn_rule (drawn r) (rule_drawing r h e)

  -- the bytes that writing puts at the front of the output read as that rule
  pub written_read : (out : List ℕ) (n : ℕ) (out' : List ℕ) → WritePromise r out (Ok n) out'
      → reading_of (take n out') ≡ Ok (rule_of (drawn r))
  written_read out n out' p =
      let w = put_done (verdict_of r) (file_of (drawn r)) out n out' p in
      ap reading_of w.front ∙ file_read (drawn r) (rule_drawing r h w.sound)

  -- which is the same rule
  pub written_same : (out : List ℕ) (n : ℕ) (out' : List ℕ) → WritePromise r out (Ok n) out'
      → (x : Rule) × (reading_of (take n out') ≡ Ok x) × Same x r
  written_same out n out' p =
      (rule_of (drawn r), written_read out n out' p, same_rule (put_done (verdict_of r) (file_of (drawn r)) out n out' p).sound)
