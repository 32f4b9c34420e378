-- The computed way is the shortest that meets the goal, the lowest among equals; there is only one such way, and it has at most n - 1 events.
-- Assumes nothing.
use mathlib.Core.Path.{◌≡◌, refl, sym, ap, ◌∙◌}
use mathlib.Core.Bool.{Bool, true, false}
use mathlib.Core.Logic.{◌⊎◌, inl, inr, ⊎_elim}
use mathlib.Core.List.{List, [], ◌∷◌}
use Prim.Native.Nat.{ℕ, zero, suc, ◌-◌, ◌^◌, ◌≤◌, ◌<◌}
use native.Mathlib.Omega.{arith}
use lib.ListN.{length}
use lib.Dec.{ltb}
use Rattle.rule.specs.Sets.{has, insert, including, meets}
use Rattle.rule.specs.Reach.{target, Closed, after, Events, none, more, with_moves}
use Rattle.rule.specs.Ways.{Meets, Before, here, later, Shortest, event_into, nearer_below, within, distance, way_by, way_into}
use Rattle.rule.proofs.SetLaws.{true_or, below_or, has_past, has_none, meets_iff}
use Rattle.rule.proofs.MoveLaws.{moves_new, moves_from}
use Rattle.rule.proofs.BoolLaws.{clash, not_so}
use Rattle.rule.proofs.LeastLaws.{least_holds, least_first}
use Rattle.rule.proofs.LayerLaws.{event_in, in_event, nearer_keeps, nearer_new, nearer_event, layer_again}
use Rattle.rule.proofs.ReachLaws.{reached_iff, reaches_iff}

-- there is one lowest way
before_not : {w v : List ℕ} → Before w v → Before v w → ⊥
before_not = along refl refl
  where
    along : {w v w' v' : List ℕ} → w ≡ w' → v ≡ v' → Before w v → Before v' w' → ⊥
    along p q (here {e = d} {f = e} h) (here {e = e'} {f = d'} g) = let s : d ≡ d' = cc in let t : e ≡ e' = cc in omega arith
    along p q (here {e = d} {f = e} h) (later {e = e'} c) = let s : d ≡ e' = cc in let t : e ≡ e' = cc in omega arith
    along p q (later {e = d} b) (here {e = e'} {f = d'} g) = let s : d ≡ d' = cc in let t : d ≡ e' = cc in omega arith
    along p q (later {w = w} {v = v} b) (later {w = v'} {v = w'} c) = let r : w ≡ w' = cc in let s : v ≡ v' = cc in along r s b c

pub one_way : {k : ℕ} {next : ℕ → ℕ → ℕ} {goal : ℕ → Bool} {t : ℕ} {w v : List ℕ}
    → Shortest k next goal t w → Shortest k next goal t v → w ≡ v
one_way {w = w} {v = v} a b =
    let s : length v ≡ length w = omega (arith, a.shortest v b.meets, b.shortest w a.meets) in
    ⊎_elim (λ q. q) (λ l. ⊎_elim (λ q. sym q) (λ m. absurd (before_not l m)) (b.lowest w a.meets (sym s))) (a.lowest v b.meets s)

-- a member of x is no news
pub below_same : (next : ℕ → ℕ → ℕ) (k x i : ℕ) → has x i ≡ true → nearer_below next k x (suc i) ≡ nearer_below next k x i
unfolding nearer_below including insert
below_same next k x i q =
    true_or (ltb (event_into next k x i) k)
    (λ b. true_or (ltb i 64) (λ c. rw (b, c, nearer_keeps next k x i i q)) (λ c. rw (b, c)))
    (λ b. rw b)

-- s is in layer m and in none before
abbrev pub FirstAt : (ℕ → ℕ → ℕ) → ℕ → ℕ → ℕ → ℕ → ℕ → Type 0
FirstAt next n k x m s = (has (within next n k x m) s ≡ true) × ((j : ℕ) → j < m → has (within next n k x j) s ≡ false)

known_first : {k e : ℕ} {w : List ℕ} → Events k (e ∷ w) → e < k
known_first (more h known) = h

known_rest : {k e : ℕ} {w : List ℕ} → Events k (e ∷ w) → Events k w
known_rest (more h known) = known

-- by distance
module _ (next : ℕ → ℕ → ℕ) (n k x : ℕ) where
  way_length : (m s : ℕ) → length (way_by next n k x m s) ≡ m
  unfolding way_by
  way_length zero s = refl
  way_length (suc m) s = ap suc (way_length m (next s (event_into next k (within next n k x m) s)))

  -- a state from which fewer than n events lead into x, by its distance
  pub near_first : (s : ℕ) → distance next n k x s < n → FirstAt next n k x (distance next n k x s) s
  unfolding distance
  near_first s h = (least_holds (λ m. has (within next n k x m) s) n h, λ j l. least_first (λ m. has (within next n k x m) s) n j l)

  pub way_into_length : (s : ℕ) → length (way_into next n k x s) ≡ distance next n k x s
  unfolding way_into
  way_into_length s = way_length (distance next n k x s) s

  near_of : (m s : ℕ) → m < n → has (within next n k x m) s ≡ true → distance next n k x s < n
  unfolding distance
  near_of m s l q =
      below_or (distance next n k x s) n (λ h. h) (λ h. clash q (least_first (λ m. has (within next n k x m) s) n m (omega arith)))

module _ (next : ℕ → ℕ → ℕ) (n k x : ℕ) (closed : (s e : ℕ) → s < n → e < k → next s e < n) (fits : n ≤ 64) where
  abbrev W : ℕ → ℕ
  W m = within next n k x m

  abbrev step : ℕ → ℕ → ℕ
  step m s = event_into next k (W m) s

  again : (m s e : ℕ) → s < n → e < k → has (W m) (next s e) ≡ true → has (W (suc m)) s ≡ true
  again m s e h g q = rw (layer_again next n k x m) (nearer_new next k (W m) n s e h (omega arith) g q)

  -- the lowest event that leads one event nearer
  pub step_in : (m s : ℕ) → has (W m) s ≡ false → has (W (suc m)) s ≡ true → step m s < k
  unfolding within
  step_in m s o q = nearer_event next k (W m) n s o q

  step_first : (m s e : ℕ) → e < step m s → has (W m) (next s e) ≡ false
  unfolding event_into
  step_first m s e h = least_first (λ e. has (W m) (next s e)) k e h

  rest_meets : {s e : ℕ} {v : List ℕ} → Meets k next (has x) s (e ∷ v) → Meets k next (has x) (next s e) v
  rest_meets w = record { known = known_rest w.known; ends = w.ends }

  -- where some events meet the goal, so many are enough
  pub met_within : (v : List ℕ) (s : ℕ) → s < n → Meets k next (has x) s v → has (W (length v)) s ≡ true
  unfolding within
  met_within [] s h w = w.ends
  met_within (e ∷ v) s h w =
      let g = known_first w.known in
      again (length v) s e h g (met_within v (next s e) (closed s e h g) (rest_meets w))

  abbrev First : ℕ → ℕ → Type 0
  First m s = FirstAt next n k x m s

  pub way_first : (m s : ℕ) → s < n → First (suc m) s → First m (next s (step m s))
  way_first m s h f =
      let g = step_in m s (f.1 m (omega arith)) f.0 in
      (event_in next k (W m) s g, λ j l. not_so _ (λ q. clash (again j s (step m s) h g q) (f.1 (suc j) (omega arith))))

  way_meets : (m s : ℕ) → s < n → First m s → Meets k next (has x) s (way_by next n k x m s)
  unfolding within way_by
  way_meets zero s h f = record { known = none; ends = f.0 }
  way_meets (suc m) s h f =
      let g = step_in m s (f.1 m (omega arith)) f.0 in
      let r = way_meets m (next s (step m s)) (closed s (step m s) h g) (way_first m s h f) in
      record { known = more g r.known; ends = r.ends }

  way_shortest : (m s : ℕ) → s < n → First m s → (v : List ℕ) → Meets k next (has x) s v → m ≤ length v
  way_shortest m s h f v w =
      below_or (length v) m (λ l. clash (met_within v s h w) (f.1 (length v) l)) (λ l. l)

  way_lowest : (m s : ℕ) → s < n → First m s → (v : List ℕ) → Meets k next (has x) s v → length v ≡ m
      → (way_by next n k x m s ≡ v) ⊎ Before (way_by next n k x m s) v
  unfolding way_by
  way_lowest zero s h f [] w q = inl refl
  way_lowest zero s h f (e ∷ v) w q = absurd (omega arith)
  way_lowest (suc m) s h f [] w q = absurd (omega arith)
  way_lowest (suc m) s h f (e ∷ v) w q =
      let l : length v ≡ m = omega arith in
      let g = known_first w.known in
      let near : has (W m) (next s e) ≡ true = rw l at (met_within v (next s e) (closed s e h g) (rest_meets w)) in
      below_or e (step m s)
      (λ b. clash near (step_first m s e b))
      (λ b.
      below_or (step m s) e
      (λ c. inr (here c))
      (λ c.
      let i : e ≡ step m s = omega arith in
      let u : Meets k next (has x) (next s (step m s)) v = rw i at (rest_meets w) in
      rw i
      (⊎_elim (λ r. inl (ap (λ (z : List ℕ). step m s ∷ z) r)) (λ r. inr (later r))
      (way_lowest m (next s (step m s)) (rw (← i) (closed s e h g)) (way_first m s h f) v u l))))

  -- the way of m events from a state that m events and no fewer lead into x
  pub way_is : (m s : ℕ) → s < n → First m s → Shortest k next (has x) s (way_by next n k x m s)
  way_is m s h f =
      record {
        meets = way_meets m s h f;
        shortest = λ v w. rw (way_length next n k x m s) (way_shortest m s h f v w);
        lowest = λ v w q. way_lowest m s h f v w (q ∙ way_length next n k x m s);
      }

  pub way_into_is : (s : ℕ) → s < n → distance next n k x s < n → Shortest k next (has x) s (way_into next n k x s)
  unfolding way_into
  way_into_is s h l = way_is (distance next n k x s) s h (near_first next n k x s l)

-- over a table: where any events lead into x, fewer than n do
module _ (table : List ℕ) (n k x : ℕ) (closed : Closed table n k) (fits : n ≤ 64) (s : ℕ) (h : s < n) where
  pub met_near : (v : List ℕ) → Meets k (target table k) (has x) s v → distance (target table k) n k x s < n
  met_near v w =
      let t = after (target table k) s v in
      let r = (reaches_iff table n k closed fits s h t).1 (record { way = v; known = w.known; ends = refl }) in
      let u = (reached_iff table n k closed fits s h (n - 1) t).0 r in
      let o = u.leads.way in
      let m : Meets k (target table k) (has x) s o = record { known = u.leads.known; ends = rw u.leads.ends w.ends } in
      near_of (target table k) n k x (length o) s (omega arith) (met_within (target table k) n k x closed fits o s h m)

-- one event leads from s into x exactly where the set of the states to which its moves lead meets x
module _ (table : List ℕ) (k s x : ℕ) (fits : x < 2 ^ 64) where
  abbrev R : ℕ
  R = with_moves table k s 0 k

  pub row_meets : event_into (target table k) k x s < k → meets R x ≡ true
  row_meets h =
      let e = event_into (target table k) k x s in
      let t = target table k s e in
      let m : has x t ≡ true = event_in (target table k) k x s h in
      let l : t < 64 = below_or t 64 (λ l. l) (λ l. clash m (has_past 64 x t fits l)) in
      (meets_iff R x).1 (t, l, moves_new table k s 0 k e h l, m)

  pub meets_row : meets R x ≡ true → event_into (target table k) k x s < k
  meets_row q =
      let w = (meets_iff R x).0 q in
      ⊎_elim
      (λ z. clash z (has_none w.0))
      (λ v. in_event (target table k) k x s v.0 v.1 (rw v.2 w.3))
      (moves_from table k s 0 k w.0 w.2)
