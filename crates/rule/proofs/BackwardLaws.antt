-- Backward is forward: a state is in the backward reach of a set exactly when some events lead from it into the set. And what sweeps over the states,
-- one after the other until one adds nothing, come to.
-- Assumes nothing.
use mathlib.Core.Path.{◌≡◌, refl, sym, ap, ◌∙◌}
use mathlib.Core.Bool.{Bool, true, false}
use mathlib.Core.Logic.{◌⊎◌, inl, inr, ⊎_elim}
use mathlib.Core.List.{List, [], ◌∷◌}
use Prim.Native.Nat.{ℕ, zero, suc, ◌+◌, ◌-◌, ◌^◌, ◌≤◌, ◌<◌}
use native.Mathlib.Omega.{arith}
use native.Mathlib.Nat.{add-zero, add-suc}
use native.Mathlib.Decide.{ℕ_discrete}
use lib.ListN.{get_or}
use borrow.Author.Tests.{lt-ltb, le-ltb}
use Rattle.rule.specs.Sets.{has, including, meets}
use Rattle.rule.specs.Reach.{target, Closed, after, Events, none, more, reached_within}
use Rattle.rule.specs.Ways.{Meets, event_into, nearer_below, within}
use Rattle.rule.specs.Backward.{reaching, with_source, swept_up, swept_down, lost_by, lost_by_some}
use Rattle.rule.specs.Drawing.{Drawing, states, events, next, no_pair}
use Rattle.rule.specs.Operations.{reach_of}
use Rattle.rule.specs.Stopping.{stops_by, stops_by_some}
use Rattle.rule.specs.declared.Pair.{Pair}
use Rattle.rule.proofs.SetLaws.{below_or, including_past, including_keeps, including_new, including_from, including_fits, same_members, meets_iff}
use Rattle.rule.proofs.BoolLaws.{Says}
use Rattle.rule.proofs.LayerLaws.{event_in, in_event, nearer_or, nearer_new, layer_first, layer_again, layer_keeps, layer_later}
use Rattle.rule.proofs.WayLaws.{after_lt}
use Rattle.rule.proofs.ReachLaws.{reaches_iff}
use Rattle.rule.proofs.CountLaws.{Within, count, count_le, count_mono, grows}

-- two tests that say the same are the same
pub same_says : {A : Type 0} (a b : Bool) → Says a A → Says b A → a ≡ b
same_says true b f g = sym (g.1 (f.0 refl))
same_says false true f g = f.1 (g.0 refl)
same_says false false f g = refl

-- some events lead from s into x, and on the way to the last of them only the n states are passed
pub data Into (next : ℕ → ℕ → ℕ) (n k x : ℕ) : ℕ → Type 0 where
  here : {s : ℕ} → has x s ≡ true → Into next n k x s
  on : {s e : ℕ} → s < n → s < 64 → e < k → Into next n k x (next s e) → Into next n k x s

-- one event
module _ (next : ℕ → ℕ → ℕ) (k x s : ℕ) where
  -- x with s, by cases
  source_or : (P : ℕ → Type 0) → (event_into next k x s < k → P (including x s)) → P x → P (with_source next k x s)
  unfolding with_source
  source_or P f g =
      below_or (event_into next k x s) k
      (λ l. rw (lt-ltb (event_into next k x s) k l) (f l))
      (λ l. rw (le-ltb (event_into next k x s) k l) g)

  source_keeps : Within x (with_source next k x s)
  source_keeps t m = source_or (λ z. has z t ≡ true) (λ l. including_keeps x s t m) m

  source_new : (e : ℕ) → s < 64 → e < k → has x (next s e) ≡ true → has (with_source next k x s) s ≡ true
  unfolding with_source
  source_new e l h m = rw (lt-ltb (event_into next k x s) k (in_event next k x s e h m)) (including_new x s l)

  source_from : (n : ℕ) → s < n → (t : ℕ) → has (with_source next k x s) t ≡ true → Into next n k x t
  source_from n h t =
      source_or (λ z. has z t ≡ true → Into next n k x t)
      (λ l m. below_or s 64
      (λ b.
      let w : Into next n k x s = on h b l (here (event_in next k x s l)) in
      ⊎_elim here (λ (e : s ≡ t). rw e at w) (including_from x s t m))
      (λ b. here (rw (← including_past x s b) at m)))
      here

-- what comes of sweeps over the first i of n states, one after the other, from x to r: what was in x stays, and what is added leads into x
pub record Grown (next : ℕ → ℕ → ℕ) (n k x r : ℕ) : Type 0 where
  pub keeps : Within x r
  pub from : (t : ℕ) → has r t ≡ true → Into next n k x t

-- and of one sweep: each of them from which one event leads into x is there
pub record Swept (next : ℕ → ℕ → ℕ) (n k i x r : ℕ) : Type 0 where
  pub grown : Grown next n k x r
  pub new : (s e : ℕ) → s < i → s < 64 → e < k → has x (next s e) ≡ true → has r s ≡ true

module _ (next : ℕ → ℕ → ℕ) (n k : ℕ) where
  -- into a set, from each member of which events lead into another
  into_then : {x y s : ℕ} → ((t : ℕ) → has y t ≡ true → Into next n k x t) → Into next n k y s → Into next n k x s
  into_then f (here m) = f _ m
  into_then f (on h b l w) = on h b l (into_then f w)

  pub grown_none : (x : ℕ) → Grown next n k x x
  grown_none x = record { keeps = λ t m. m; from = λ t m. here m }

  pub grown_more : {x y r : ℕ} → Grown next n k x y → Grown next n k y r → Grown next n k x r
  grown_more a b = record { keeps = λ t m. b.keeps t (a.keeps t m); from = λ t m. into_then a.from (b.from t m) }

  source_grown : (x s : ℕ) → s < n → Grown next n k x (with_source next k x s)
  source_grown x s h = record { keeps = source_keeps next k x s; from = source_from next k x s n h }

  pub swept_up_is : (x i : ℕ) → i ≤ n → Swept next n k i x (swept_up next k x i)
  unfolding swept_up
  swept_up_is x zero h = record { grown = grown_none x; new = λ s e l. absurd (omega arith) }
  swept_up_is x (suc i) h =
      let y = swept_up next k x i in
      let S = swept_up_is x i (omega arith) in
      record {
        grown = grown_more S.grown (source_grown y i (omega arith));
        new = λ s e l b g m. below_or s i
            (λ c. source_keeps next k y i s (S.new s e c b g m))
            (λ c. let q : s ≡ i = omega arith in rw q (source_new next k y i e (omega arith) g (S.grown.keeps (next i e) (rw q at m))));
      }

  pub swept_down_is : (x i : ℕ) → i ≤ n → Swept next n k i x (swept_down next k x i)
  unfolding swept_down
  swept_down_is x zero h = record { grown = grown_none x; new = λ s e l. absurd (omega arith) }
  swept_down_is x (suc i) h =
      let y = with_source next k x i in
      let S = swept_down_is y i (omega arith) in
      record {
        grown = grown_more (source_grown x i (omega arith)) S.grown;
        new = λ s e l b g m. below_or s i
            (λ c. S.new s e c b g (source_keeps next k x i (next s e) m))
            (λ c. let q : s ≡ i = omega arith in rw q (S.grown.keeps i (source_new next k x i e (omega arith) g (rw q at m))));
      }

  -- what such sweeps give
  module _ (y : ℕ) where
    pub up_swept : (r : ℕ) → r ≡ swept_up next k y n → Swept next n k n y r
    up_swept r is = rw is (swept_up_is y n (omega arith))

    pub down_swept : (r : ℕ) → r ≡ swept_down next k y n → Swept next n k n y r
    down_swept r is = rw is (swept_down_is y n (omega arith))

-- the layers: from which at most m events lead into x
module _ (next : ℕ → ℕ → ℕ) (k x : ℕ) where
  nearer_fits : x < 2 ^ 64 → (i : ℕ) → nearer_below next k x i < 2 ^ 64
  unfolding nearer_below
  nearer_fits h zero = h
  nearer_fits h (suc i) = nearer_or next k x (λ z. z < 2 ^ 64) i (λ l. including_fits (nearer_below next k x i) i (nearer_fits h i)) (nearer_fits h i)

  nearer_from : (n i : ℕ) → i ≤ n → (t : ℕ) → has (nearer_below next k x i) t ≡ true → Into next n k x t
  unfolding nearer_below
  nearer_from n zero h t = here
  nearer_from n (suc i) h t =
      nearer_or next k x (λ z. has z t ≡ true → Into next n k x t) i
      (λ l m. below_or i 64
      (λ b.
      let w : Into next n k x i = on (omega arith) b l (here (event_in next k x i l)) in
      ⊎_elim (λ old. nearer_from n i (omega arith) t old) (λ (e : i ≡ t). rw e at w) (including_from (nearer_below next k x i) i t m))
      (λ b. nearer_from n i (omega arith) t (rw (← including_past (nearer_below next k x i) i b) at m)))
      (λ m. nearer_from n i (omega arith) t m)

module _ (next : ℕ → ℕ → ℕ) (n k x : ℕ) where
  abbrev W : ℕ → ℕ
  W m = within next n k x m

  -- each member of a layer leads into x, and what leads into x is a member of some layer
  layer_into : (m t : ℕ) → has (W m) t ≡ true → Into next n k x t
  layer_into zero t i = here (rw (layer_first next n k x) at i)
  layer_into (suc m) t i = into_then next n k (layer_into m) (nearer_from next k (W m) n n (omega arith) t (rw (layer_again next n k x m) at i))

  into_layer : {s : ℕ} → Into next n k x s → (m : ℕ) × (has (W m) s ≡ true)
  into_layer (here i) = (0, rw (layer_first next n k x) i)
  into_layer (on {s = s} {e = e} h b l w) =
      let r = into_layer w in
      (suc r.0, rw (layer_again next n k x r.0) (nearer_new next k (W r.0) n s e h b l r.1))

  -- 64 events are always enough
  module _ (fits : x < 2 ^ 64) where
    layer_fits : (m : ℕ) → W m < 2 ^ 64
    layer_fits zero = rw (layer_first next n k x) fits
    layer_fits (suc m) = rw (layer_again next n k x m) (nearer_fits next k (W m) (layer_fits m) n)

    step : (m : ℕ) → m ≤ count (W m) 64 → (W (suc m) ≡ W m) ⊎ (suc m ≤ count (W (suc m)) 64)
    step m g = by (ℕ_discrete (W m) (W (suc m)))
      where
        by : Dec (W m ≡ W (suc m)) → (W (suc m) ≡ W m) ⊎ (suc m ≤ count (W (suc m)) 64)
        by (yes e) = inl (sym e)
        by (no d) = inr (omega (arith, grows (W m) (W (suc m)) (layer_keeps next n k x m) 64 (layer_fits m) (layer_fits (suc m)) d))

    grown : (m : ℕ) → (W (suc m) ≡ W m) ⊎ (suc m ≤ count (W (suc m)) 64)
    grown zero = step zero (omega arith)
    grown (suc m) =
        ⊎_elim
        (λ e. inl (layer_again next n k x (suc m) ∙ ap (λ z. nearer_below next k z n) e ∙ sym (layer_again next n k x m)))
        (λ g. step (suc m) g)
        (grown m)

    stays : (j : ℕ) → W (64 + j) ≡ W 64
    stays zero = rw add-zero
    stays (suc j) =
        let still : W (suc 64) ≡ W 64 = ⊎_elim (λ e. e) (λ g. absurd (omega (arith, count_le (W (suc 64)) 64))) (grown 64) in
        rw add-suc (layer_again next n k x (64 + j) ∙ ap (λ z. nearer_below next k z n) (stays j) ∙ sym (layer_again next n k x 64) ∙ still)

    enough : (m t : ℕ) → has (W m) t ≡ true → has (W 64) t ≡ true
    enough m t i =
        below_or m 64
        (λ l. let p : m + (64 - m) ≡ 64 = omega arith in rw p at (layer_later next n k x m (64 - m) t i))
        (λ l. let p : 64 + (m - 64) ≡ m = omega arith in rw (← stays (m - 64), p) i)

    reaching_into : (s : ℕ) → Says (has (reaching next n k x) s) (Into next n k x s)
    unfolding reaching
    reaching_into s = (layer_into 64 s, λ w. let r = into_layer w in enough r.0 s r.1)

    pub reaching_fits : reaching next n k x < 2 ^ 64
    unfolding reaching
    reaching_fits = layer_fits 64

    -- where a sweep over all states adds nothing, the set is the backward reach
    pub swept_all : (y r : ℕ) → y < 2 ^ 64 → Grown next n k x y → Swept next n k n y r → r ≡ y → y ≡ reaching next n k x
    swept_all y r low G S same =
        same_members 64 y (reaching next n k x) low reaching_fits (λ s h.
        same_says (has y s) (has (reaching next n k x) s) (G.from s, closes) (reaching_into s))
      where
        closes : {s : ℕ} → Into next n k x s → has y s ≡ true
        closes (here m) = G.keeps _ m
        closes (on {s = s} {e = e} h b l w) = rw same at (S.new s e h b l (closes w))

    -- a state is in it exactly when some events lead from it to a member of x
    module _ (closed : (s e : ℕ) → s < n → e < k → next s e < n) (few : n ≤ 64) where
      meets_into : {w : List ℕ} → Events k w → (s : ℕ) → s < n → has x (after next s w) ≡ true → Into next n k x s
      meets_into none s h m = here m
      meets_into (more {e = e} l known) s h m = on h (omega arith) l (meets_into known (next s e) (closed s e h l) m)

      into_meets : {s : ℕ} → Into next n k x s → (w : List ℕ) × Meets k next (has x) s w
      into_meets (here m) = ([], record { known = none; ends = m })
      into_meets (on {e = e} h b l w) = let r = into_meets w in (e ∷ r.0, record { known = more l r.1.known; ends = r.1.ends })

      pub reaching_iff : (s : ℕ) → s < n → Says (has (reaching next n k x) s) ((w : List ℕ) × Meets k next (has x) s w)
      reaching_iff s h = ((λ i. into_meets ((reaching_into s).0 i)), λ w. (reaching_into s).1 (meets_into w.1.known s h w.1.ends))

-- so it has a state exactly where what the state reaches meets x
module _ (table : List ℕ) (n k x : ℕ) (fits : x < 2 ^ 64) (closed : Closed table n k) (few : n ≤ 64) (q : ℕ) (h : q < n) where
  abbrev R : ℕ
  R = reached_within table n k q (n - 1)

  met : meets R x ≡ true → (w : List ℕ) × Meets k (target table k) (has x) q w
  met m =
      let g = (meets_iff R x).0 m in
      let w = (reaches_iff table n k closed few q h g.0).0 g.2 in
      (w.way, record { known = w.known; ends = rw w.ends g.3 })

  meet : (w : List ℕ) → Meets k (target table k) (has x) q w → meets R x ≡ true
  meet w m =
      let t = after (target table k) q w in
      let in-R = (reaches_iff table n k closed few q h t).1 (record { way = w; known = m.known; ends = refl }) in
      (meets_iff R x).1 (t, omega (arith, after_lt n k (target table k) closed m.known q h), in-R, m.ends)

  pub reaching_at : has (reaching (target table k) n k x) q ≡ meets (reached_within table n k q (n - 1)) x
  reaching_at =
      same_says (has (reaching (target table k) n k x) q) (meets R x)
      (reaching_iff (target table k) n k x fits closed few q h) (met, λ w. meet w.0 w.1)

-- so a state is lost by some pair exactly where it is stopping
pub lost_stops : (d : Drawing) (ps : List Pair) → ((i : ℕ) → (get_or ps i no_pair).r < 2 ^ 64) → Closed d.table (states d) (events d) → states d ≤ 64
    → (q : ℕ) → q < states d → lost_by_some (next d) (states d) (events d) ps q ≡ stops_by_some ps (reach_of d q) q
unfolding lost_by_some lost_by stops_by_some stops_by reach_of
lost_stops d [] low closed few q h = refl
lost_stops d (p ∷ ps) low closed few q h =
    rw (reaching_at d.table (states d) (events d) p.r (low 0) closed few q h, lost_stops d ps (λ i. low (suc i)) closed few q h)

-- a sweep that added something leaves fewer states outside
pub swept_less : (x y r : ℕ) → x < 2 ^ 64 → y < 2 ^ 64 → Within x y → Within y r → (y ≡ x → ⊥) → 64 - count r 64 < 64 - count x 64
swept_less x y r hx hy a b d = omega (arith, grows x y a 64 hx hy (λ e. d (sym e)), count_mono y r b 64, count_le r 64)
