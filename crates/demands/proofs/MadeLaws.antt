-- A sheet made by this build: it is the sheet of what is drawn in the file, it is the machine's, and the machine has the laws.
-- Every file that is not refused has one, and a run begins on it.
-- Assumes nothing.
use Prim.Native.Nat.{ℕ, ◌≤◌}
use native.Mathlib.Omega.{arith}
use mathlib.Core.Path.{◌≡◌, refl, sym, ◌∙◌}
use mathlib.Core.Logic.{◌⊎◌}
use mathlib.Core.List.{List, [], ◌++◌}
use lib.ListN.{length, drop}
use lib.Seq.{take_at}
use Rattle.std.specs.Prelude.{Ok}
use Rattle.rule.specs.Drawing.{count}
use Rattle.rule.specs.Range.{last_mode}
use Rattle.rule.specs.Classes.{OfClass}
use Rattle.rule.specs.WellDrawn.{WellDrawn}
use Rattle.rule.specs.Machine.{machine_of, Laws, Sharp}
use Rattle.rule.proofs.ClassLaws.{of_class}
use Rattle.rule.proofs.GivenLaws.{conditions_sound}
use Rattle.rule.proofs.OperationLaws.{laws, sharp}
use Rattle.rulefile.specs.Layout.{drawing_in}
use Rattle.rulefile.specs.Reading.{verdict_on}
use Rattle.rule.proofs.PutLaws.{put_done, put_room}
use Rattle.rulefile.proofs.PartsLaws.{sound_file}
use Rattle.rulefile.proofs.WellLaws.{file_shaped, file_pairs, file_well}
use Rattle.sheet.specs.Layout.{sheet_of}
use Rattle.making.proofs.MakingLaws.{Formed, sheet_opens, sheet_cell}
use Rattle.making.proofs.FoundLaws.{sound_formed}
use Rattle.monitor.specs.Fresh.{start_run}
use Rattle.history.specs.History.{History, fresh}
use Rattle.history.proofs.HistoryLaws.{Drawn}
use Rattle.demands.specs.Made.{Made}

-- what a sheet that was made from a file has
pub record Lawful (file sheet : List ℕ) : Type 0 where
  pub sheet_is : sheet ≡ sheet_of (drawing_in file)
  pub classed : OfClass (drawing_in file) (drawing_in file).shape.class
  pub well : WellDrawn (drawing_in file)
  pub formed : Formed (drawing_in file)
  pub lawful : Laws (machine_of (drawing_in file))
  pub mode_in : (drawing_in file).shape.mode ≤ last_mode
  pub sharp_one : ((drawing_in file).shape.mode ≡ 1) ⊎ (count (drawing_in file) ≡ 1) → Sharp (machine_of (drawing_in file))
  pub drawn : Drawn (machine_of (drawing_in file)) sheet

pub made_lawful : {file sheet : List ℕ} → Made file sheet → Lawful file sheet
made_lawful {file} {sheet} made =
    let d = drawing_in file in
    let put = put_done (verdict_on file) (sheet_of d) made.out made.size made.out' made.promise in
    let S = sound_file file put.sound in
    let g = conditions_sound d S.sound in
    let W = file_well file S in
    let F = sound_formed file put.sound in
    let e : sheet ≡ sheet_of d = made.front ∙ put.front in
    record {
      sheet_is = e;
      classed = of_class d (file_pairs file S) (file_shaped file S) g.2 g.3;
      well = W;
      formed = F;
      lawful = laws d W;
      mode_in = (file_shaped file S).ranged.mode_in;
      sharp_one = sharp d W;
      drawn = rw e (record { few = W.few_states; opened = sheet_opens F; cells = sheet_cell F });
    }

-- every file that is not refused has its sheet made: into an output of the sheet's length, for instance
pub sound_made : (file : List ℕ) → verdict_on file ≡ Ok tt → Made file (sheet_of (drawing_in file))
sound_made file s =
    let bytes = sheet_of (drawing_in file) in
    record {
      out = bytes;
      out' = bytes ++ drop (length bytes) bytes;
      size = length bytes;
      promise = let p = put_room (verdict_on file) bytes bytes _ _ s (omega arith) (record { answer = refl; output = refl }) in
          record { answer = sym p.0; output = sym p.1 };
      front = sym (take_at bytes (drop (length bytes) bytes) (length bytes) refl);
    }

-- and a run begins on it
pub begins : {file sheet : List ℕ} → Made file sheet → (memory : List ℕ) → History sheet [] [] (start_run sheet) memory
begins {file} {sheet} made memory = fresh (start_run sheet) memory (rw (made_lawful made).drawn.opened)
