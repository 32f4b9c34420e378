-- Joint mode (M-105): a construction of its own beside the published four, for a rule of any class. Its moves as rules, and its stopping states; reach
-- counts zero moves. Nothing here speaks of `operation_at`.
-- Assumes nothing.
use Rattle.std.specs.Prelude.{ℕ, ◌<◌, ◌⊎◌}
use Rattle.rule.specs.Reach.{Leads}
use Rattle.rule.specs.Drawing.{Drawing, count, events, next, pair_at}
use Rattle.rule.specs.Published.{In}
use Rattle.rule.specs.declared.Operation.{Operation}
use Rattle.rule.specs.declared.Operation.TheVariants.{Halt, Store, Dump}

-- every pair accepts t
abbrev pub AllAccept : Drawing → ℕ → Type 0
AllAccept d t = (i : ℕ) → i < count d → In (pair_at d i).r t ⊎ In (pair_at d i).p t

-- some state that every pair accepts is reached from q
pub record ReachesGood (d : Drawing) (q : ℕ) : Type 0 where
  pub state : ℕ
  pub accepted : AllAccept d state
  pub leads : Leads (events d) (next d) q state

-- a move dumps if every pair accepts its target, halts if its target reaches no state that every pair accepts, and else stores
pub data JointMove (d : Drawing) (q e : ℕ) : Operation → ℕ → Type 0 where
  dump : AllAccept d (next d q e) → JointMove d q e Dump (next d q e)
  halt : (ReachesGood d (next d q e) → ⊥) → JointMove d q e Halt (next d q e)
  store : (AllAccept d (next d q e) → ⊥) → ReachesGood d (next d q e) → JointMove d q e Store (next d q e)

-- stopping states are those that reach none
abbrev pub JointStop : Drawing → ℕ → Type 0
JointStop d q = ReachesGood d q → ⊥
