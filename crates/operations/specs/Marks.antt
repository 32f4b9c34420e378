-- The operation of a move into each state of a drawing, as two sets of states.
-- Assumes nothing.
use Rattle.std.specs.Prelude.{ℕ, Bool, cond, not}
use Rattle.rule.specs.Sets.{has, those}
use Rattle.rule.specs.Drawing.{Drawing, states, events, next, joint}
use Rattle.rule.specs.Acceptance.{good_of}
use Rattle.rule.specs.Backward.{reaching, lost_by_some}
use Rattle.rule.specs.declared.Operation.{Operation}
use Rattle.rule.specs.declared.Operation.TheVariants.{Halt, Store, Dump}
use Rattle.operations.specs.declared.Marks.{Marks}

-- dump at a good state, else halt at a halting one, else store
unfoldable pub operation_in : Marks → ℕ → Operation
operation_in m t = cond (has m.good t) Dump (cond (has m.halt t) Halt Store)

-- mode 0: whether t is lost by one of the pairs
abbrev pub lost_pairs : Drawing → ℕ → Bool
lost_pairs d = lost_by_some (next d) (states d) (events d) d.pairs

-- joint mode: whether no events lead from t to a state that every pair accepts
abbrev pub lost_joint : Drawing → ℕ → Bool
lost_joint d t = not (has (reaching (next d) (states d) (events d) (good_of d)) t)

-- of the 64 states that a set can hold, those that every pair accepts, and those that are lost
unfoldable pub marks_of : Drawing → Marks
marks_of d = record { good = good_of d; halt = cond (joint d) (those (lost_joint d) 64) (those (lost_pairs d) 64) }
