-- What writing a rule comes to, and what it leaves in the output.
-- Assumes nothing.
use Rattle.std.specs.Prelude.{ℕ, ◌≡◌, not, List, [], ◌∷◌, ◌++◌, length, leb, Ok}
use Rattle.rule.specs.Drawing.{Drawing, drawn}
use Rattle.rule.specs.Range.{most_pairs, longest_note}
use Rattle.rule.specs.Putting.{PutPromise}
use Rattle.rule.specs.Refusals.{refuse_if, first_of, conditions}
use Rattle.rule.specs.declared.Rule.{Rule}
use Rattle.rule.specs.declared.Body.{Body}
use Rattle.rule.specs.declared.Shape.{Shape}
use Rattle.rule.specs.declared.Refusal.TheVariants.{Distance}
use Rattle.trailer.specs.Conditions.{class, range}
use Rattle.rulefile.specs.Layout.{file_of}
use Rattle.rule.specs.Verdict.{Verdict, Written}

-- 4 of a rule by value: the note is over 1,024
abbrev pub noted : ℕ → Verdict
noted length = refuse_if (not (leb length longest_note)) Distance

-- the conditions of a rule by value in order: 2 to 4 of a shape and a note's length, and then 5 to 9
abbrev pub measure_conditions : Shape → ℕ → List Verdict
measure_conditions s length = class s ∷ range s ∷ noted length ∷ []

abbrev pub rule_conditions : Rule → List Verdict
rule_conditions r = measure_conditions r.shape r.length ++ conditions (drawn r)

unfoldable pub verdict_of : Rule → Verdict
verdict_of r = first_of (rule_conditions r)

-- a value of the struct: a rule by value carries its three arrays whole
pub record Held (r : Rule) : Type 0 where
  pub note_long : length r.note ≡ longest_note
  pub table_long : length r.table ≡ 2048
  pub pairs_long : length r.pairs ≡ most_pairs

-- the drawing that has these parts
abbrev pub parts : List ℕ → Body → Drawing
parts note b = record { shape = b.shape; note = note; table = b.table.now; pairs = b.pairs.now }

-- the promise of putting a drawing's file, unchecked
abbrev pub FilePromise : Drawing → List ℕ → Written → List ℕ → Type 0
FilePromise d out w out' = PutPromise (Ok tt) (file_of d) out w out'

-- the promise of writing a rule
abbrev pub WritePromise : Rule → List ℕ → Written → List ℕ → Type 0
WritePromise r out w out' = PutPromise (verdict_of r) (file_of (drawn r)) out w out'
