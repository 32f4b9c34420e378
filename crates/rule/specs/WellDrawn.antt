-- What the operations of a rule rest on: a rule that is read or written has it (`well_drawn` of ClassLaws).
-- Assumes nothing.
use Rattle.std.specs.Prelude.{ℕ, ◌≤◌, ◌<◌, ◌^◌, ◌≡◌, length}
use Rattle.rule.specs.Reach.{Closed}
use Rattle.rule.specs.Drawing.{Drawing, states, events, count, initial, pair_at}
use Rattle.rule.specs.Classes.{NoneInto}

pub record WellDrawn (d : Drawing) : Type 0 where
  pub few_states : states d ≤ 64
  pub initial_in : initial d < states d
  -- every move leads to a state
  pub closed : Closed d.table (states d) (events d)
  -- there are m pairs, they name states only, and no move leads from outside P into P
  pub whole : length d.pairs ≡ count d
  pub R_in : (i : ℕ) → i < count d → (pair_at d i).r < 2 ^ states d
  pub P_in : (i : ℕ) → i < count d → (pair_at d i).p < 2 ^ states d
  pub none_into : (i : ℕ) → i < count d → NoneInto d (pair_at d i).p
