-- What the range of N, K and the initial state says, where it holds and where it fails.
-- Assumes nothing.
use Prim.Native.Nat.{ℕ}
use mathlib.Core.Logic.Iff
use mathlib.Core.Logic.{inl, inr, ⊎_elim}
use Rattle.rule.specs.Range.{between, Outside, under, over, in_range, InRange, OutOfRange, bad_N, bad_K, bad_initial}
use Rattle.rule.specs.declared.Limits.{Limits}
use Rattle.rule.proofs.BoolLaws.{Says, and_says, le_says, lt_says, in_words, Fails, le_fails, lt_fails, and_fails}

pub outside_fails : (lo hi x : ℕ) → Fails (between lo hi x) (Outside lo hi x)
outside_fails lo hi x =
    Iff.trans (and_fails (le_fails lo x) (le_fails x hi)) (⊎_elim under over, λ o. elim o [ under h ↦ inl h | over h ↦ inr h ])

module _ (l : Limits) (n k initial : ℕ) where
  pub range_says : Says (in_range l n k initial) (InRange l n k initial)
  unfolding in_range
  range_says =
      in_words (and_says (and_says (le_says _ _) (le_says _ _)) (and_says (and_says (le_says _ _) (le_says _ _)) (lt_says _ _)))
      (λ p.
      record { some_states = p.0.0; few_states = p.0.1; some_events = p.1.0.0; few_events = p.1.0.1; initial_in = p.1.1 })
      (λ r. ((r.some_states, r.few_states), ((r.some_events, r.few_events), r.initial_in)))

  pub range_fails : Fails (in_range l n k initial) (OutOfRange l n k initial)
  unfolding in_range
  range_fails =
      Iff.trans (and_fails (outside_fails 1 l.states n) (and_fails (outside_fails 1 l.events k) (lt_fails initial n)))
      (⊎_elim bad_N (⊎_elim bad_K bad_initial), λ o. elim o [ bad_N h ↦ inl h | bad_K h ↦ inr (inl h) | bad_initial h ↦ inr (inr h) ])
