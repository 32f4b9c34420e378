-- Sequences of events one after the other, and where they lead; and that they lead within the states.
-- Assumes nothing.
use mathlib.Core.Path.{◌≡◌, refl, ap, ◌∙◌}
use mathlib.Core.List.{List, [], ◌∷◌, ◌++◌}
use Prim.Native.Nat.{ℕ, suc, ◌*◌, ◌/◌, ◌%◌, ◌≤◌, ◌<◌}
use native.Mathlib.Omega.{arith}
use native.Mathlib.Decide.{dec_lt}
use native.Mathlib.Nat.{div-lt_iff_lt-mul, div-add-mod', mod-lt}
use lib.ListN.{length, get_or, length-append, get_or-eq_default}
use Rattle.rule.specs.Reach.{target, Closed, after, Events, none, more, LeadsWithin}

-- the state after one sequence and then another
pub after_append : (next : ℕ → ℕ → ℕ) (q : ℕ) (v w : List ℕ) → after next q (v ++ w) ≡ after next (after next q v) w
after_append next q [] w = refl
after_append next q (e ∷ v) w = after_append next (next q e) v w

pub events_append : {k : ℕ} {v w : List ℕ} → Events k v → Events k w → Events k (v ++ w)
events_append none known = known
events_append (more h rest) known = more h (events_append rest known)

module _ {k : ℕ} {next : ℕ → ℕ → ℕ} {q : ℕ} where
  -- no events lead to where they begin
  pub leads_none : {t m : ℕ} → q ≡ t → LeadsWithin k next q m t
  leads_none e = record { leads = record { way = []; known = none; ends = e }; few = omega arith }

  pub leads_longer : {t m : ℕ} → LeadsWithin k next q m t → LeadsWithin k next q (suc m) t
  leads_longer w = record { leads = w.leads; few = omega arith }

  -- and one event more
  pub leads_more : {s t m e : ℕ} → LeadsWithin k next q m s → e < k → next s e ≡ t → LeadsWithin k next q (suc m) t
  leads_more {e = e} w h to =
      record {
        leads =
            record {
              way = w.leads.way ++ (e ∷ []);
              known = events_append w.leads.known (more h none);
              ends = after_append next q w.leads.way (e ∷ []) ∙ ap (λ u. next u e) w.leads.ends ∙ to;
            };
        few = omega (arith, length-append w.leads.way (e ∷ []));
      }

-- within the states from one of them on
pub after_lt : (n k : ℕ) (next : ℕ → ℕ → ℕ) → ((s e : ℕ) → s < n → e < k → next s e < n) → {w : List ℕ} → Events k w → (q : ℕ) → q < n → after next q w < n
after_lt n k next closed none q h = h
after_lt n k next closed (more {e = e} l known) q h = after_lt n k next closed known (next q e) (closed q e h l)

-- where every move leads to a state, every byte of the table is a state, and 0 stands past it
pub closed_low : (table : List ℕ) (n k : ℕ) → 1 ≤ n → 1 ≤ k → length table ≡ n * k → Closed table n k → (i : ℕ) → get_or table i 0 < n
unfolding target
closed_low table n k some-n some-k cells closed i =
    elim (dec_lt i (length table)) [
      | yes h ↦
          let s : i / k < n = (div-lt_iff_lt-mul some-k).1 (rw cells at h) in
          rw (div-add-mod' i k) at (closed (i / k) (i % k) s (mod-lt i some-k))
      | no h ↦ rw (get_or-eq_default table 0 {n = i} (omega arith)) some-n
    ]
