-- Laws of writing: what putting bytes into an output comes to, and what writing a rule does, return by return.
-- Assumes nothing.
use mathlib.Core.Path.{◌≡◌, refl, sym, ap, ◌∙◌}
use mathlib.Core.List.{List, ◌++◌}
use Prim.Native.Nat.{ℕ, ◌+◌, ◌*◌, ◌≤◌}
use native.Mathlib.Omega.{arith}
use lib.ListN.{length, take, length-append}
use Rattle.rule.specs.Drawing.{drawn, body}
use Rattle.rule.specs.Range.{Classed, Ranged}
use Rattle.rule.specs.Refusals.{first_of, conditions}
use Rattle.rule.proofs.BoolLaws.{le_says}
use Rattle.rule.proofs.PutLaws.{keeps_refused, keeps_no_room}
use Rattle.rule.proofs.RefusalLaws.{append_hit, append_more, first_sound}
use Rattle.rule.specs.declared.Body.{Body}
use Rattle.rule.specs.declared.Rule.{Rule}
use Rattle.rule.specs.declared.Shape.{Shape}
use Rattle.rule.specs.declared.Refusal.{Refusal}
use Rattle.rule.specs.declared.Refusal.TheVariants.{Class, Range, Distance, Room}
use Rattle.std.proofs.lemmas.Bool.Decides.{nat_tests}
use Rattle.trailer.proofs.HeadLaws.{third_told}
use Rattle.trailer.proofs.SoundLaws.{classed_says, ranged_says, passed, cells_in}
use Rattle.trailer.specs.Layout.{trailer_out}
use Rattle.rulefile.specs.Layout.{pairs_out, file_of}
use Rattle.rule.specs.Putting.{PutPromise}
use Rattle.rulefile.specs.Writing.{measure_conditions, verdict_of, parts, FilePromise}
use Rattle.checks.specs.Checked.{checked_of}
use Rattle.checks.proofs.CheckLaws.{conditions_note}
use Rattle.checks.proofs.HeldLaws.{is_in_range}
use Rattle.trailer.proofs.LayoutLaws.{length_trailer_out}
use Rattle.rulefile.proofs.LayoutLaws.{length_pairs_out, pairs_out_take}
use Rattle.rule.specs.Verdict.{Verdict, Written}
use Rattle.std.specs.Prelude.{Ok, Err}

-- 2 to 4 of a rule by value

pub ruleset head_told = (third_told, nat_tests)

pub record Measured (s : Shape) (length : ℕ) : Type 0 where
  pub classed : Classed s
  pub ranged : Ranged s
  pub note_in : length ≤ 1024

pub measured_sound : (s : Shape) (length : ℕ) → first_of (measure_conditions s length) ≡ Ok tt → Measured s length
measured_sound s length e =
    let a = (first_sound _ _).0 e in
    let b = (first_sound _ _).0 a.1 in
    let c = (first_sound _ _).0 b.1 in
    record {
      classed = (passed Class (classed_says s)).0 a.0;
      ranged = (passed Range (ranged_says s)).0 b.0;
      note_in = (passed Distance (le_says length 1024)).0 c.0;
    }

-- a file put by its parts

module _ (note : List ℕ) (b : Body) where
  abbrev rest : List ℕ
  rest = b.table.now ++ (pairs_out b.pairs.now b.shape.pairs ++ trailer_out b.shape)

  abbrev size : ℕ
  size = length note + length b.table.now + (16 * b.shape.pairs + 12)

  length_rest : length note + length rest ≡ size
  length_rest =
      rw (length-append b.table.now, length-append (pairs_out b.pairs.now b.shape.pairs), length_pairs_out, length_trailer_out) (omega arith)

  size_is : size ≡ length (note ++ rest)
  size_is = sym (length-append note rest ∙ length_rest)

  -- there is no room
  pub file_no_room : (out : List ℕ) → (size ≤ length out → ⊥) → FilePromise (parts note b) out (Err Room) out
  unfolding file_of
  file_no_room out h = keeps_no_room refl (rw (← size_is) (omega arith))

-- a rule by value

module _ (r : Rule) {v : Verdict} (head : v ≡ first_of (measure_conditions r.shape r.length)) where
  -- 2 to 4
  pub head_refused : (out : List ℕ) {x : Refusal} → v ≡ Err x → PutPromise (verdict_of r) (file_of (drawn r)) out (Err x) out
  unfolding verdict_of
  head_refused out {x} e =
      keeps_refused (append_hit (measure_conditions r.shape r.length) (conditions (drawn r)) x (sym head ∙ e))

  module _ (sound : v ≡ Ok tt) where
    measured : Measured r.shape r.length
    measured = measured_sound r.shape r.length (sym head ∙ sound)

    -- the note and the table that are used lie in their arrays
    pub note_in_array : length r.note ≡ 1024 → r.length ≤ length r.note
    note_in_array e = rw e measured.note_in

    pub table_in_array : length r.table ≡ 2048 → r.shape.states * r.shape.events ≤ length r.table
    table_in_array e = rw e (cells_in measured.ranged)

    -- 5 to 9
    module _ {w : Verdict} (checked : w ≡ checked_of (body r.shape (take (r.shape.states * r.shape.events) r.table) r.pairs)) where
      told : w ≡ verdict_of r
      unfolding verdict_of drawn
      told =
          let g = measured.ranged in
          checked
          ∙ is_in_range (body r.shape (take (r.shape.states * r.shape.events) r.table) r.pairs) g.numbers.few_states g.some_pairs g.few_pairs
          ∙ ap first_of (sym (conditions_note r.shape (take r.length r.note) _ _))
          ∙ sym (append_more (measure_conditions r.shape r.length) (conditions (drawn r)) (sym head ∙ sound))

      pub body_refused : (out : List ℕ) {x : Refusal} → w ≡ Err x → PutPromise (verdict_of r) (file_of (drawn r)) out (Err x) out
      body_refused out e = keeps_refused (sym told ∙ e)

      -- the file by its parts is that of the rule
      pub rule_put : {out : List ℕ} {a : Written} {out' : List ℕ} → w ≡ Ok tt
          → let cells = take (r.shape.states * r.shape.events) r.table in
          FilePromise (record { shape = r.shape; note = take r.length r.note; table = cells; pairs = r.pairs }) out a out'
          → PutPromise (verdict_of r) (file_of (drawn r)) out a out'
      unfolding file_of drawn
      rule_put e p = rw (sym told ∙ e, pairs_out_take r.pairs r.shape.pairs) p

pub ruleset held = (note_in_array, table_in_array)
