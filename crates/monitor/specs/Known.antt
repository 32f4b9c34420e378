-- Codes that are not the rule's business: of a log the events under K are taken and the others are ignored.
-- Assumes nothing.
use Rattle.std.specs.Prelude.{ℕ, ◌≡◌, cond, List, [], ◌∷◌, ◌++◌, ltb}
use Rattle.sheet.specs.Layout.{head_in}
use Rattle.monitor.specs.Evening.{codes, Outcome}
use Rattle.monitor.specs.declared.Evening.{Evening}

-- the events of a log that are under k, and those that are not
unfoldable pub known : ℕ → List ℕ → List ℕ
known k [] = []
known k (e ∷ es) = cond (ltb e k) (e ∷ known k es) (known k es)

unfoldable pub remarks : ℕ → List ℕ → List ℕ
remarks k [] = []
remarks k (e ∷ es) = cond (ltb e k) (remarks k es) (e ∷ remarks k es)

-- those that are under the sheet's K
abbrev pub heard : (sheet log : List ℕ) → List ℕ
heard sheet log = known (head_in sheet).events log

-- how far calls came: a beginning of the log, of which they took the events under K and ignored the others
pub record SoFar (sheet log : List ℕ) (x : Outcome) : Type 0 where
  pub front : List ℕ
  pub rest : List ℕ
  pub beginning : log ≡ front ++ rest
  pub taken : codes x.taken ≡ heard sheet front
  pub ignored : x.ignored ≡ remarks (head_in sheet).events front

-- what calls come to, but for the events ignored
abbrev pub uncounted : Outcome → Outcome
uncounted x = record x { ignored = [] }

-- the report of an evening with another number of events ignored
abbrev pub ignoring : ℕ → Evening → Evening
ignoring n r = record r { ignored = n }
