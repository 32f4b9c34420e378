-- Operations, ordered halt < store < dump: of a pair at the target of a move, of all pairs, in joint mode, of a move.
-- Assumes nothing.
use Rattle.std.specs.Prelude.{ℕ, ◌-◌, ◌≡◌, ◌<◌, cond, List, [], ◌∷◌, Result, MatchResult}
use Rattle.rule.specs.Sets.{has, meets}
use Rattle.rule.specs.Reach.{reached_within}
use Rattle.rule.specs.Drawing.{Drawing, states, events, next, joint}
use Rattle.rule.specs.Acceptance.{meets_all, good_of}
use Rattle.rule.specs.declared.Pair.{Pair}
use Rattle.rule.specs.declared.NoOperation.{NoOperation}
use Rattle.rule.specs.declared.Operation.{Operation}
use Rattle.rule.specs.declared.Operation.TheVariants.{Halt, Store, Dump}

-- an operation's number in a sheet, rising with the order
abbrev pub mark_of : Operation → ℕ
mark_of Halt = 0
mark_of Store = 1
mark_of Dump = 2

-- the operation that has this number, or none has it
abbrev pub ByMark : ℕ → Result Operation NoOperation → Type 0
ByMark mark r = MatchResult r (λ o. mark_of o ≡ mark) (λ _. 2 < mark)

abbrev pub greater : Operation → Operation → Operation
greater Halt b = b
greater Store Halt = Store
greater Store Store = Store
greater Store Dump = Dump
greater Dump b = Dump

abbrev pub smaller : Operation → Operation → Operation
smaller Halt b = Halt
smaller Store Halt = Halt
smaller Store Store = Store
smaller Store Dump = Store
smaller Dump b = b

-- the P side at t: dump if t is in P, else halt
abbrev pub side_p : Pair → ℕ → Operation
side_p p t = cond (has p.p t) Dump Halt

-- the R side at t, which reaches the set `reached`: dump if t is in R, store if it is not but reaches R, else halt
abbrev pub side_r : Pair → ℕ → ℕ → Operation
side_r p reached t = cond (has p.r t) Dump (cond (meets reached p.r) Store Halt)

-- the pair's value at t: the greater of the two
unfoldable pub value_of : Pair → ℕ → ℕ → Operation
value_of p reached t = greater (side_p p t) (side_r p reached t)

-- the smallest value over all pairs
unfoldable pub smallest_of : List Pair → ℕ → ℕ → Operation
smallest_of [] reached t = Dump
smallest_of (p ∷ ps) reached t = smaller (value_of p reached t) (smallest_of ps reached t)

-- the states that q reaches
unfoldable pub reach_of : Drawing → ℕ → ℕ
reach_of d q = reached_within d.table (states d) (events d) q (states d - 1)

-- mode 0, a move into t: the smallest value over all pairs
unfoldable pub operation_pairs : Drawing → ℕ → Operation
operation_pairs d t = smallest_of d.pairs (reach_of d t) t

-- joint mode, a move into t: dump if every pair accepts t, halt if t reaches no state that every pair accepts, else store
unfoldable pub operation_joint : Drawing → ℕ → Operation
operation_joint d t = cond (meets_all d.pairs t) Dump (cond (meets (reach_of d t) (good_of d)) Store Halt)

-- the operation of a move into t, by the mode
unfoldable pub operation_at : Drawing → ℕ → Operation
operation_at d t = cond (joint d) (operation_joint d t) (operation_pairs d t)

-- the operation of the move from s at e
abbrev pub operation : Drawing → ℕ → ℕ → Operation
operation d s e = operation_at d (next d s e)
