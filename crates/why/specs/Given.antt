-- The rows of the paper's table for asking why.
-- Assumes nothing.
use Rattle.std.specs.Prelude.{ℕ, ◌≤◌, List, [], ◌∷◌, ◌++◌, length}
use Rattle.rule.specs.Drawing.{states, events, next}
use Rattle.rule.specs.Given.{Table}
use Rattle.rule.specs.Putting.{Put, put_order}
use Rattle.rule.specs.declared.Refusal.{Refusal}
use Rattle.rule.specs.declared.Refusal.TheVariants.{Run, Code}
use Rattle.rulefile.specs.Given.{Reading, reading_order}
use Rattle.rulefile.specs.Layout.{drawing_in}
use Rattle.why.specs.Grounds.{way_told}

-- 1 to 9 of the rule, then 12 for a state of N or more and 13 for an event of K or more
pub data WhyRow (f : List ℕ) (s e : ℕ) : ℕ → Refusal → Type 0 where
  file : {n : ℕ} {x : Refusal} → Reading f n x → WhyRow f s e n x
  at_12 : states (drawing_in f) ≤ s → WhyRow f s e 12 Run
  at_13 : events (drawing_in f) ≤ e → WhyRow f s e 13 Code

abbrev pub state_order : List ℕ
state_order = reading_order ++ (12 ∷ 13 ∷ [])

-- and then 16: the way does not fit
abbrev pub why_order : List ℕ
why_order = put_order state_order

abbrev pub Asking : List ℕ → (s e room : ℕ) → Table
Asking f s e room = Put (WhyRow f s e) (length (way_told (drawing_in f) (next (drawing_in f) s e))) room
