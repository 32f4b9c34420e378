-- What printing comes to: a refusal's line or the monitor, measured, and put where it fits.
-- Assumes nothing.
use Prim.Native.Nat.{ℕ, ◌-◌, ◌≤◌, ◌<◌}
use mathlib.Core.Path.{◌≡◌, refl, sym, ◌∙◌}
use mathlib.Core.List.{List, [], ◌++◌}
use native.Mathlib.Omega.{arith}
use lib.ListN.{length, take, drop}
use Rattle.rule.specs.Drawing.{body}
use Rattle.rule.specs.Reach.{target}
use Rattle.rule.specs.Refusals.{told_of}
use Rattle.rule.specs.Acceptance.{good_of}
use Rattle.operations.specs.Marks.{operation_in, marks_of}
use Rattle.operations.specs.declared.Marks.{Marks}
use Rattle.rule.specs.declared.Refusal.{Refusal}
use Rattle.rule.specs.declared.Refusal.TheVariants.{Room}
use Rattle.rule.proofs.RefusalLaws.{sound_or}
use Rattle.rulefile.specs.Layout.{drawing_in}
use Rattle.rulefile.specs.Reading.{verdict_on, parts_of}
use Rattle.rulefile.specs.declared.Contents.{Contents}
use Rattle.rulefile.proofs.PartsLaws.{sound_file, sound_parts, parts_refused, parts_sound}
use Rattle.rule.proofs.PutLaws.{keeps_no_room, keeps_done}
use Rattle.rulefile.proofs.WellLaws.{file_well, file_shaped}
use Rattle.printed.specs.Printing.{header, cell_lines, stop_line, refusal_line, monitor_text, text_max, text_of, PrintPromise}
use Rattle.printed.specs.Writers.{halts_into, page_text, text_from}
use Rattle.printed.specs.declared.lines.Page.{Page}
use Rattle.printed.specs.Writing.{Puts}
use Rattle.printed.specs.declared.text.Text.{Text as Out}
use Rattle.printed.proofs.PlacingLaws.{put_size, put_all}
use Rattle.printed.proofs.WritingLaws.{puts_then}
use Rattle.printed.proofs.MonitorLaws.{monitor_is}
use Rattle.printed.proofs.LengthLaws.{refusal_short, monitor_short}
use Rattle.std.specs.Prelude.{Ok, Err, Result}

-- ---- what is printed of a file

module _ (f : List ℕ) where
  text_sound : verdict_on f ≡ Ok tt → text_of f ≡ monitor_text (drawing_in f)
  unfolding text_of
  text_sound v = rw v

  text_refused : {r : Refusal} → verdict_on f ≡ Err r → text_of f ≡ refusal_line (told_of r)
  unfolding text_of
  text_refused v = rw v

  -- it is 32,768 bytes at most
  pub text_short : length (text_of f) ≤ text_max
  text_short =
      sound_or (verdict_on f)
      (λ v. let s = sound_file f v in rw (text_sound v) (monitor_short (drawing_in f) (file_well f s) (file_shaped f s).ranged.numbers.few_events))
      (λ r v. rw (text_refused v) (omega (arith, refusal_short (told_of r))))

  -- it is the text of what was found of the file
  pub refused_text : {r : Refusal} → Err r ≡ parts_of f → refusal_line (told_of r) ≡ text_of f
  refused_text e = sym (text_refused (parts_refused f e))

  module _ {p : Contents} (is : Ok p ≡ parts_of f) {l : Marks} (found : l ≡ marks_of (body p.shape (take (p.end - p.start) (drop p.start f)) p.pairs)) where
    sound : verdict_on f ≡ Ok tt
    sound = parts_sound f is

    same : l ≡ marks_of (drawing_in f)
    unfolding marks_of good_of
    same = let s = sound_parts f is in found ∙ rw (s.table_is, s.pairs_is, s.drawn)

    pub page_found : header p.shape ++ (cell_lines (target (take (p.end - p.start) (drop p.start f)) p.shape.events) (operation_in l) p.shape.events p.shape.states
        ++ stop_line (halts_into l) p.shape.states) ≡ text_of f
    page_found =
        let s = sound_parts f is in
        rw (s.table_is, s.drawn) (monitor_is (file_well f (sound_file f sound)) same ∙ sym (text_sound sound))

  -- measured in no bytes, and then refused or put
  module _ (found : Result Page Refusal) (is : text_from found ≡ text_of f) (out : List ℕ) {r s : Out} (none : r.out.now ≡ []) (start : r.at ≡ 0)
      (m : Puts r s (text_from found)) where
    size_is : s.at ≡ length (text_of f)
    size_is = let p = rw (none, start) at m.put in put_size p (rw is (omega (arith, text_short))) ∙ rw is

    pub print_no_room : length out < s.at → PrintPromise f out (Err Room) out
    print_no_room h = keeps_no_room refl (rw size_is at h)

    pub print_put : s.at ≤ length out → {t u : Out} → t.out.now ≡ out → t.at ≡ 0 → Puts t u (text_from found) → {out' : List ℕ} → out' ≡ u.out.now
        → PrintPromise f out (Ok u.at) out'
    print_put h e z q o =
        let fits : length (text_of f) ≤ length out = rw size_is at h in
        let put = rw (e, z, is) at q.put in
        let n-is = put_size put (omega (arith, text_short)) in
        keeps_done refl n-is (rw n-is fits) (rw (o, n-is) (put_all put fits))

-- ---- a page, part by part

module _ (p : Page) where
  pub page_put : {o o₁ o₂ o₃ : Out} → Puts o o₁ (header p.shape)
      → Puts o₁ o₂ (cell_lines (target p.moves.table.now p.moves.events) (operation_in p.marks) p.moves.events p.moves.states)
      → Puts o₂ o₃ (stop_line (halts_into p.marks) p.moves.states) → Puts o o₃ (page_text p)
  page_put p q r = puts_then p (puts_then q r)
