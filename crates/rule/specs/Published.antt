-- The four published constructions: definitions 8, 10 and 11 of source document 001 and, for the guarantee, definition 5.2 of source document 000, with the
-- corrections of document 01.
-- Each gives the moves of the monitor as rules, and its stopping states; reach counts zero moves. Nothing here speaks of `operation_at`.
-- Assumes nothing.
use Rattle.std.specs.Prelude.{ℕ, ◌≤◌, ◌<◌, ◌≡◌, true, false}
use Rattle.rule.specs.Sets.{has}
use Rattle.rule.specs.Reach.{Leads}
use Rattle.rule.specs.Drawing.{Drawing, count, events, next, pair_at}
use Rattle.rule.specs.Operations.{mark_of}
use Rattle.rule.specs.declared.Pair.{Pair}
use Rattle.rule.specs.declared.Operation.{Operation}
use Rattle.rule.specs.declared.Operation.TheVariants.{Halt, Store, Dump}

-- t is a member of the set
abbrev pub In : ℕ → ℕ → Type 0
In x t = has x t ≡ true

abbrev pub Out : ℕ → ℕ → Type 0
Out x t = has x t ≡ false

-- some state of the set is reached from q
pub record Reaches (d : Drawing) (x q : ℕ) : Type 0 where
  pub state : ℕ
  pub member : In x state
  pub leads : Leads (events d) (next d) q state

abbrev pub ReachesNone : Drawing → ℕ → ℕ → Type 0
ReachesNone d x q = Reaches d x q → ⊥

-- safety, over P: definition 8 of document 001
pub data SafetyMove (d : Drawing) (p : ℕ) (q e : ℕ) : Operation → ℕ → Type 0 where
  dump : In p (next d q e) → SafetyMove d p q e Dump (next d q e)
  halt : Out p (next d q e) → SafetyMove d p q e Halt (next d q e)

abbrev pub SafetyStop : Drawing → ℕ → ℕ → Type 0
SafetyStop d p q = Out p q

-- guarantee, over R: definition 5.2 of document 000, with halt where no state of R is reached
pub data GuaranteeMove (d : Drawing) (r : ℕ) (q e : ℕ) : Operation → ℕ → Type 0 where
  dump : In r (next d q e) → GuaranteeMove d r q e Dump (next d q e)
  halt : Out r (next d q e) → ReachesNone d r (next d q e) → GuaranteeMove d r q e Halt (next d q e)
  store : Out r (next d q e) → Reaches d r (next d q e) → GuaranteeMove d r q e Store (next d q e)

abbrev pub GuaranteeStop : Drawing → ℕ → ℕ → Type 0
GuaranteeStop d r q = ReachesNone d r q

infix 4 ◌⊑◌
-- obligation, definition 10 of document 001: the infimum over the pairs of the supremum of β and γ, in the order halt, store, dump
abbrev pub ◌⊑◌ : Operation → Operation → Type 0
a ⊑ b = mark_of a ≤ mark_of b

pub data Beta (p t : ℕ) : Operation → Type 0 where
  dump : In p t → Beta p t Dump
  halt : Out p t → Beta p t Halt

pub data Gamma (d : Drawing) (r t : ℕ) : Operation → Type 0 where
  dump : In r t → Gamma d r t Dump
  halt : Out r t → ReachesNone d r t → Gamma d r t Halt
  store : Out r t → Reaches d r t → Gamma d r t Store

-- v is the supremum of β and γ at t for the pair
pub record PairValue (d : Drawing) (pair : Pair) (t : ℕ) (v : Operation) : Type 0 where
  pub β : Operation
  pub γ : Operation
  pub β_rule : Beta pair.p t β
  pub γ_rule : Gamma d pair.r t γ
  pub β_below : β ⊑ v
  pub γ_below : γ ⊑ v
  pub least : (w : Operation) → β ⊑ w → γ ⊑ w → v ⊑ w

-- a is at most the value of every pair at t
abbrev pub BelowAll : Drawing → ℕ → Operation → Type 0
BelowAll d t a = (i : ℕ) → i < count d → (v : Operation) → PairValue d (pair_at d i) t v → a ⊑ v

pub data ObligationMove (d : Drawing) (q e : ℕ) : Operation → ℕ → Type 0 where
  infimum : {a : Operation} → BelowAll d (next d q e) a → ((b : Operation) → BelowAll d (next d q e) b → b ⊑ a) → ObligationMove d q e a (next d q e)

pub record ObligationStop (d : Drawing) (q : ℕ) : Type 0 where
  pub pair : ℕ
  pub used : pair < count d
  pub outside : Out (pair_at d pair).p q
  pub reaches_none : ReachesNone d (pair_at d pair).r q

-- response, over R, definition 11 of document 001: the rules of the guarantee, and two for a move from R out of R
pub data ResponseMove (d : Drawing) (r : ℕ) (q e : ℕ) : Operation → ℕ → Type 0 where
  as_guarantee : {a : Operation} {t : ℕ} → GuaranteeMove d r q e a t → ResponseMove d r q e a t
  store : In r q → Out r (next d q e) → Reaches d r (next d q e) → ResponseMove d r q e Store (next d q e)
  halt : In r q → Out r (next d q e) → ReachesNone d r (next d q e) → ResponseMove d r q e Halt (next d q e)

abbrev pub ResponseStop : Drawing → ℕ → ℕ → Type 0
ResponseStop d r q = ReachesNone d r q
