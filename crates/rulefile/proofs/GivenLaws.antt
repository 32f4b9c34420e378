-- "Given exactly when", for reading and for writing: a refusal is given, with its places, exactly when its row of the table holds and no
-- earlier row does. Assumes nothing.
use Prim.Native.Nat.{ℕ}
use native.Mathlib.Omega.{arith}
use mathlib.Core.Path.{◌≡◌, refl}
use mathlib.Core.Bool.{true}
use mathlib.Core.List.{List}
use mathlib.Core.Logic.{inr, ◌↔◌}
use lib.ListN.{length}
use lib.Seq.{length-take-le}
use Rattle.rule.specs.Drawing.{drawn, rule_of}
use Rattle.rule.specs.Refusals.{among, first_of, verdict_told}
use Rattle.rule.specs.Given.{NoRow, Given, done, refused, Ends}
use Rattle.rule.specs.declared.Rule.{Rule}
use Rattle.rule.specs.declared.Refusal.{Refusal}
use Rattle.rule.specs.declared.Refusal.TheVariants.{Frame}
use Rattle.rule.proofs.BoolLaws.{clash, fails_say, le_fails}
use Rattle.rule.proofs.NumberLaws.{among_says, Gives}
use Rattle.rule.proofs.PutLaws.{put_gives, put_does, put_ends}
use Rattle.rule.proofs.TableLaws.{Within, Answers, decided, then, as_rows, sound_exactly, numbers}
use Rattle.trailer.specs.Layout.{trailer_in}
use Rattle.rulefile.specs.Layout.{drawing_in, file_of}
use Rattle.rulefile.specs.Reading.{verdict_on, when_sound, verdict_in, contents_of, reading_of, parts_of}
use Rattle.rulefile.specs.Writing.{verdict_of, WritePromise}
use Rattle.rulefile.specs.Given.{BadFrame, BadDistance, LongNote, drawing_order, DrawingRow, reading_order, Reading, at_1, drawing, writing_order}
use Rattle.rulefile.specs.Given.{Writing}
use Rattle.rulefile.proofs.ListLaws.{length_up_to}
use Rattle.rulefile.proofs.WhenLaws.{when_ok, when_err}
use Rattle.rulefile.proofs.FaultLaws.{frame_fails, distance_fails}
use Rattle.rulefile.proofs.RowLaws.{drawing_within, shape_rows}
use Rattle.rule.specs.Putting.{written_told}
use Rattle.rule.specs.Verdict.{Verdict, Written}
use Rattle.std.specs.Prelude.{Ok, Err}

-- the verdict on a file, and on a rule by value

module _ (f : List ℕ) where
  pub file_within : Within reading_order (Reading f)
  file_within n x (at_1 a) = record { number = refl; listed = refl }
  file_within n x (drawing r) = let w = drawing_within _ _ n x r in record { number = w.number; listed = (among_says n 1 drawing_order).1 (inr w.listed) }

  pub file_answers : Answers (Reading f) reading_order (verdict_on f)
  unfolding verdict_on first_of drawing_in
  file_answers =
      then _ (decided (Reading f) 1 (fails_say (frame_fails f)) at_1 says) (λ _.
      as_rows (λ n x q. (drawing, rest n x q))
      (shape_rows (drawing_in f) _ (distance_fails (trailer_in f) (length f)) (λ h. length_up_to _ _)))
    where
      says : (y : Refusal) → Reading f 1 y → (Frame ≡ y) × BadFrame f
      says y (at_1 a) = (refl, a)
      says y (drawing r) = clash (drawing_within _ _ _ _ r).listed refl

      rest : (n : ℕ) (x : Refusal) → among n drawing_order ≡ true → Reading f n x
          → DrawingRow (drawing_in f) (BadDistance (trailer_in f) (length f)) n x
      rest n x q (at_1 a) = clash q refl
      rest n x q (drawing r) = r

-- and the numbers of a file's verdict
pub file_gives : (f : List ℕ) → Gives reading_order (verdict_on f)
file_gives f = numbers (file_within f) (file_answers f)

pub rule_answers : (r : Rule) → length r.pairs ≡ 8 → Answers (DrawingRow (drawn r) (LongNote r.length)) drawing_order (verdict_of r)
unfolding verdict_of first_of drawn
rule_answers r eight =
    shape_rows (drawn r) _ (le_fails r.length 1024) (λ h. length-take-le r.shape.pairs r.pairs (omega arith))

-- reading: of every file

module _ (f : List ℕ) where
  -- the table: a refusal is given exactly when no earlier row holds and its own does
  pub read_gives : (x : Refusal) → (reading_of f ≡ Err x) ↔ Given (Reading f) x reading_order
  unfolding reading_of
  read_gives x =
      let g = (file_answers f).gives x in
      (λ e. g.0 (when_err (verdict_on f) (rule_of (drawing_in f)) e), λ n. rw (g.1 n))

  -- and none is, but the rule that is drawn read, exactly when no row holds
  pub read_sound : (reading_of f ≡ Ok (rule_of (drawing_in f))) ↔ NoRow (Reading f)
  unfolding reading_of
  read_sound =
      let s = sound_exactly (file_within f) (file_answers f) in
      (λ e. s.0 (when_ok (verdict_on f) (rule_of (drawing_in f)) e).0, λ n. rw (s.1 n))

  -- looking at it and reading it end so: refused, with nothing but the refusal
  ends : {A : Type 0} (a : A) → let r = when_sound (verdict_on f) a in
      Ends (Reading f) reading_order (verdict_told (verdict_in r)) ((x : Refusal) × (r ≡ Err x))
  ends {A} a = by (verdict_on f) (file_answers f)
    where
      by : (v : Verdict) → Answers (Reading f) reading_order v
          → Ends (Reading f) reading_order (verdict_told (verdict_in (when_sound v a))) ((x : Refusal) × (when_sound v a ≡ Err x))
      by (Ok _) a = record { tells = done ((sound_exactly (file_within f) a).0 refl); rest = λ n. absurd (n refl) }
      by (Err x) a = record { tells = refused ((a.gives x).0 refl); rest = λ n. (x, refl) }

  pub look_ends : Ends (Reading f) reading_order (verdict_told (verdict_in (parts_of f))) ((x : Refusal) × (parts_of f ≡ Err x))
  unfolding parts_of
  look_ends = ends (contents_of f)

  pub read_ends : Ends (Reading f) reading_order (verdict_told (verdict_in (reading_of f))) ((x : Refusal) × (reading_of f ≡ Err x))
  unfolding reading_of
  read_ends = ends (rule_of (drawing_in f))

-- writing: of any answer that the promise allows, and a rule by value, which carries eight pairs

module _ (r : Rule) {out : List ℕ} {w : Written} {out' : List ℕ} (eight : length r.pairs ≡ 8) (kept : WritePromise r out w out') where
  pub write_gives : (x : Refusal) → (w ≡ Err x) ↔ Given (Writing r (length out)) x writing_order
  write_gives = put_gives (drawing_within _ _) refl (rule_answers r eight) kept

  -- done exactly when no row holds; the room is one of them
  pub write_done : (n : ℕ) → (w ≡ Ok n) ↔ (NoRow (Writing r (length out)) × (n ≡ length (file_of (drawn r))))
  write_done = put_does (drawing_within _ _) refl (rule_answers r eight) kept

  pub write_ends : Ends (Writing r (length out)) writing_order (written_told w) (out' ≡ out)
  write_ends = put_ends (drawing_within _ _) refl (rule_answers r eight) kept
