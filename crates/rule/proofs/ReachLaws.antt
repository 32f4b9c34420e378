-- The states reached within m moves are those to which at most m events lead; N - 1 moves are always enough.
-- Assumes nothing.
use mathlib.Core.Path.{◌≡◌, refl, sym, ap, ◌∙◌}
use mathlib.Core.Bool.{true, false}
use mathlib.Core.Logic.{◌⊎◌, inl, inr, ⊎_elim, ◌↔◌}
use mathlib.Core.List.{List, [], ◌∷◌}
use Prim.Native.Nat.{ℕ, zero, suc, ◌+◌, ◌-◌, ◌^◌, ◌≤◌, ◌<◌}
use native.Mathlib.Omega.{arith}
use native.Mathlib.Nat.{zero-add, add-zero, add-suc}
use native.Mathlib.Decide.{ℕ_discrete}
use lib.ListN.{length}
use lib.Pow.{pow_pos}
use Rattle.rule.specs.Sets.{has, including}
use Rattle.rule.specs.Reach.{target, Closed, moved_set, spread, reached_within, after, Events, more, Leads, LeadsWithin}
use Rattle.rule.proofs.SetLaws.{has_none, below_or, including_new, including_from, including_lt}
use Rattle.rule.proofs.MoveLaws.{moved_keeps, moved_new, moved_from, moved_lt}
use Rattle.rule.proofs.WayLaws.{leads_none, leads_longer, leads_more}
use Rattle.rule.proofs.CountLaws.{count, count_le, count_one, grows}

-- from q, by the table of a rule: every move leads to one of the n states
module _ (table : List ℕ) (n k : ℕ) (closed : Closed table n k) (fits : n ≤ 64) (q : ℕ) (h : q < n) where
  abbrev R : ℕ → ℕ
  R m = reached_within table n k q m

  first : R 0 ≡ including 0 q
  unfolding reached_within spread
  first = refl

  next : (m : ℕ) → R (suc m) ≡ moved_set table n k (R m)
  unfolding reached_within spread
  next m = refl

  -- a set of the n states
  pub reached_lt : (m : ℕ) → R m < 2 ^ n
  reached_lt zero = rw first (including_lt n 0 q (pow_pos n) h)
  reached_lt (suc m) = rw (next m) (moved_lt table n k (R m) closed (reached_lt m))

  -- q itself, with zero moves
  start : has (R 0) q ≡ true
  start = rw first (including_new 0 q (omega arith))

  keeps : (m t : ℕ) → has (R m) t ≡ true → has (R (suc m)) t ≡ true
  keeps m t i = rw (next m) (moved_keeps table n k (R m) t i)

  again : (m s e : ℕ) → s < n → e < k → has (R m) s ≡ true → has (R (suc m)) (target table k s e) ≡ true
  again m s e l g i = rw (next m) (moved_new table n k (R m) s e l i g (omega (arith, closed s e l g)))

  -- what is reached is led to
  sound : (m t : ℕ) → has (R m) t ≡ true → LeadsWithin k (target table k) q m t
  sound zero t i =
      ⊎_elim
      (λ m. let f : has 0 t ≡ false = has_none t in let z : ◌≡◌ {A = ℕ} 0 1 = cc in absurd (omega arith))
      (λ e. leads_none e)
      (including_from 0 q t (rw first at i))
  sound (suc m) t i =
      ⊎_elim
      (λ old. leads_longer (sound m t old))
      (λ w. leads_more (sound m w.state w.member) w.known w.leads)
      (moved_from table n k (R m) t (rw (next m) at i))

  -- what is led to is reached
  along : (m s : ℕ) (w : List ℕ) → s < n → Events k w → has (R m) s ≡ true → has (R (m + length w)) (after (target table k) s w) ≡ true
  along m s [] l known i = rw add-zero i
  along m s (e ∷ w) l (more g known) i =
      let p : suc m + length w ≡ m + suc (length w) = omega arith in
      rw p at (along (suc m) (target table k s e) w (closed s e l g) known (again m s e l g i))

  later : (m j t : ℕ) → has (R m) t ≡ true → has (R (m + j)) t ≡ true
  later m zero t i = rw add-zero i
  later m (suc j) t i = rw add-suc (keeps (m + j) t (later m j t i))

  up_to : (m j t : ℕ) → m ≤ j → has (R m) t ≡ true → has (R j) t ≡ true
  up_to m j t l i = let p : m + (j - m) ≡ j = omega arith in rw p at (later m (j - m) t i)

  led : (t : ℕ) (w : Leads k (target table k) q t) → has (R (length w.way)) t ≡ true
  led t w = rw (zero-add, w.ends) at (along 0 q w.way h w.known start)

  -- the set reached within m moves has exactly the states to which at most m events lead
  pub reached_iff : (m t : ℕ) → (has (R m) t ≡ true) ↔ LeadsWithin k (target table k) q m t
  reached_iff m t = (sound m t, λ w. up_to (length w.leads.way) m t w.few (led t w.leads))

  -- a move leaves the set as it is, or adds a member
  step : (m : ℕ) → suc m ≤ count (R m) n → (R (suc m) ≡ R m) ⊎ (suc (suc m) ≤ count (R (suc m)) n)
  step m g = by (ℕ_discrete (R m) (R (suc m)))
    where
      by : Dec (R m ≡ R (suc m)) → (R (suc m) ≡ R m) ⊎ (suc (suc m) ≤ count (R (suc m)) n)
      by (yes e) = inl (sym e)
      by (no d) = inr (omega (arith, grows (R m) (R (suc m)) (λ s i. keeps m s i) n (reached_lt m) (reached_lt (suc m)) d))

  -- after m + 1 moves the set has stopped growing, or has m + 2 members at least
  grown : (m : ℕ) → (R (suc m) ≡ R m) ⊎ (suc (suc m) ≤ count (R (suc m)) n)
  grown zero = step zero (count_one (R 0) q n start h)
  grown (suc m) = ⊎_elim (λ e. inl (next (suc m) ∙ ap (moved_set table n k) e ∙ sym (next m))) (λ g. step (suc m) g) (grown m)

  still : R (suc (n - 1)) ≡ R (n - 1)
  still = ⊎_elim (λ e. e) (λ g. absurd (omega (arith, count_le (R (suc (n - 1))) n))) (grown (n - 1))

  stays : (j : ℕ) → R (n - 1 + j) ≡ R (n - 1)
  stays zero = rw add-zero
  stays (suc j) = rw add-suc (next (n - 1 + j) ∙ ap (moved_set table n k) (stays j) ∙ sym (next (n - 1)) ∙ still)

  -- n - 1 moves are always enough
  pub enough : (m t : ℕ) → has (R m) t ≡ true → has (R (n - 1)) t ≡ true
  enough m t i =
      below_or m (n - 1)
      (λ l. up_to m (n - 1) t (omega arith) i)
      (λ l. let p : n - 1 + (m - (n - 1)) ≡ m = omega arith in rw (← stays (m - (n - 1)), p) i)

  -- the set reached within n - 1 moves has exactly the states that are reached at all
  pub reaches_iff : (t : ℕ) → (has (R (n - 1)) t ≡ true) ↔ Leads k (target table k) q t
  reaches_iff t = ((λ i. (sound (n - 1) t i).leads), λ w. enough (length w.way) t (led t w))
