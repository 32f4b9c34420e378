-- What looking at a rule file and reading it come to.
-- Assumes nothing.
use Rattle.std.specs.Prelude.{ℕ, ◌-◌, List, ◌∷◌, ◌++◌, length, Result, Ok, Err}
use Rattle.rule.specs.Drawing.{no_pair, padded, rule_of}
use Rattle.rule.specs.Refusals.{first_of, conditions}
use Rattle.rule.specs.Verdict.{Verdict}
use Rattle.rule.specs.declared.Refusal.{Refusal}
use Rattle.rule.specs.declared.Rule.{Rule}
use Rattle.trailer.specs.Layout.{table_back, pairs_back, trailer_in}
use Rattle.trailer.specs.Conditions.{frame, head_conditions}
use Rattle.rulefile.specs.Layout.{drawing_in}
use Rattle.rulefile.specs.declared.Contents.{Contents}

-- the conditions 1 to 9 in order
abbrev pub file_conditions : List ℕ → List Verdict
file_conditions f =
    frame f ∷ (head_conditions (trailer_in f) (length f) ++ conditions (drawing_in f))

-- whether the file is sound, or the first refusal
unfoldable pub verdict_on : List ℕ → Verdict
verdict_on f = first_of (file_conditions f)

-- a value where a verdict is sound, else its refusal
abbrev pub when_sound : {A : Type 0} → Verdict → A → Result A Refusal
when_sound (Ok _) a = Ok a
when_sound (Err r) a = Err r

-- the verdict in such a result
abbrev pub verdict_in : {A : Type 0} → Result A Refusal → Verdict
verdict_in (Ok a) = Ok tt
verdict_in (Err r) = Err r

-- the parts of a sound file: what is drawn in it, and where its table stands
abbrev pub contents_of : List ℕ → Contents
contents_of f =
    let d = drawing_in f in
    record {
      shape = d.shape;
      start = length f - table_back d.shape;
      end = length f - pairs_back d.shape;
      pairs = padded 8 no_pair d.pairs;
    }

unfoldable pub parts_of : List ℕ → Result Contents Refusal
parts_of f = when_sound (verdict_on f) (contents_of f)

-- the rule that is drawn in a sound file
unfoldable pub reading_of : List ℕ → Result Rule Refusal
reading_of f = when_sound (verdict_on f) (rule_of (drawing_in f))
