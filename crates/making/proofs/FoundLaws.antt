-- What making a sheet needs of a rule file that was looked at, and the returns of `make`.
-- Assumes nothing.
use Prim.Native.Nat.{ℕ, ◌-◌, ◌≤◌, ◌<◌}
use mathlib.Core.Path.{◌≡◌}
use mathlib.Core.List.{List}
use lib.ListN.{length, get_or, take, drop}
use Rattle.rule.specs.Drawing.{body}
use Rattle.rule.specs.Operations.{reach_of, operation_pairs, operation_joint, operation_at}
use Rattle.rule.specs.Acceptance.{good_of}
use Rattle.rule.specs.declared.Refusal.{Refusal}
use Rattle.rule.proofs.RefusalLaws.{first_sound}
use Rattle.rule.proofs.GivenLaws.{entries_sound}
use Rattle.trailer.proofs.SoundLaws.{cells_in}
use Rattle.rulefile.specs.Layout.{drawing_in}
use Rattle.rulefile.specs.Reading.{verdict_on, parts_of}
use Rattle.rulefile.specs.declared.Contents.{Contents}
use Rattle.rule.specs.Putting.{PutPromise}
use Rattle.rulefile.proofs.PartsLaws.{sound_file, table_drawn, SoundParts, sound_parts, parts_refused, parts_sound}
use Rattle.rulefile.proofs.WellLaws.{file_well}
use Rattle.rule.specs.WellDrawn.{WellDrawn}
use Rattle.rule.proofs.PutLaws.{keeps_refused}
use Rattle.sheet.specs.Layout.{sheet_of}
use Rattle.making.specs.Making.{MakePromise}
use Rattle.making.proofs.MakingLaws.{Formed, low}
use Rattle.rule.specs.Verdict.{Written}
use Rattle.std.specs.Prelude.{Ok, Err}

-- of what is drawn in a sound file a sheet can be made
pub sound_formed : (f : List ℕ) → verdict_on f ≡ Ok tt → Formed (drawing_in f)
unfolding drawing_in
sound_formed f e =
    let s = sound_file f e in
    record {
      is_in_range = s.ranged.numbers;
      cells = table_drawn f s;
      entries_stay_in = (entries_sound (drawing_in f)).0 ((first_sound _ _).0 s.sound).0;
    }

module _ (f : List ℕ) {p : Contents} (is : Ok p ≡ parts_of f) where
  parts : SoundParts f p
  parts = sound_parts f is

  sound_is : verdict_on f ≡ Ok tt
  sound_is = parts_sound f is

  -- what the sheet's writer asks
  pub found_well : WellDrawn (body p.shape (take (p.end - p.start) (drop p.start f)) p.pairs)
  found_well =
      let w = file_well f (sound_file f sound_is) in
      rw (parts.table_is, parts.pairs_is, parts.drawn) (record {
        few_states = w.few_states;
        initial_in = w.initial_in;
        closed = w.closed;
        whole = w.whole;
        R_in = w.R_in;
        P_in = w.P_in;
        none_into = w.none_into;
      })

  pub found_low : (i : ℕ) → get_or (take (p.end - p.start) (drop p.start f)) i 0 < p.shape.states
  found_low i = rw (parts.table_is, parts.drawn) (low (sound_formed f sound_is) i)

  pub found_short : length (take (p.end - p.start) (drop p.start f)) ≤ 2048
  found_short = rw (parts.table_is, parts.table_long) (cells_in parts.ranged)

  -- the sheet of the parts is that of the drawing
  pub made : {out : List ℕ} {w : Written} {out' : List ℕ}
      → PutPromise (Ok tt) (sheet_of (body p.shape (take (p.end - p.start) (drop p.start f)) p.pairs)) out w out' → MakePromise f out w out'
  unfolding sheet_of operation_at operation_pairs operation_joint good_of reach_of
  made q = rw (sound_is, ← parts.table_is, ← parts.pairs_is, ← parts.drawn) q

pub made_refused : (f out : List ℕ) {r : Refusal} → Err r ≡ parts_of f → MakePromise f out (Err r) out
made_refused f out q = keeps_refused (parts_refused f q)
