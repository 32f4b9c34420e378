-- The computed grounds are the ones that are asked for.
-- Assumes nothing.
use mathlib.Core.Path.{◌≡◌, refl, sym, ◌∙◌}
use mathlib.Core.Bool.{Bool, true, false, cond, not}
use mathlib.Core.Logic.{inl, inr, ⊎_elim, ◌↔◌}
use mathlib.Core.List.{List, [], ◌∷◌}
use Prim.Native.Nat.{ℕ, ◌≤◌, ◌<◌}
use native.Mathlib.Omega.{arith}
use native.Mathlib.Decide.{ℕ_discrete}
use lib.ListN.{length}
use borrow.Author.Tests.{not-true, not-false, eq-eqb, ne_eqb}
use Rattle.rule.specs.Sets.{has}
use Rattle.rule.specs.Reach.{after, Events, none, more}
use Rattle.rule.specs.Drawing.{Drawing, states, events, count, next, joint, pair_at}
use Rattle.rule.specs.Acceptance.{meets_pair, meets_all, good_of}
use Rattle.rule.specs.Given.{LowestPair, NoPair, Stops, by_pair, jointly}
use Rattle.rule.specs.Operations.{reach_of, operation_at}
use Rattle.rule.specs.Stopping.{stops_by}
use Rattle.rule.specs.WellDrawn.{WellDrawn}
use Rattle.rule.specs.Ways.{Meets, Shortest, least, distance}
use Rattle.rule.specs.declared.Pair.{Pair}
use Rattle.rule.specs.declared.Operation.{Operation}
use Rattle.rule.specs.declared.Operation.TheVariants.{Halt, Store, Dump}
use Rattle.rule.proofs.SetLaws.{has_or, below_or}
use Rattle.rule.proofs.BoolLaws.{clash, not_so, so, chosen, itself, or_says, eq_says, eq_fails}
use Rattle.rule.proofs.PairLaws.{says_meets_all}
use Rattle.rule.proofs.StoppingLaws.{stops_says, all_accept, good_at}
use Rattle.rule.proofs.OperationLaws.{operation_halt, operation_dump}
use Rattle.rule.proofs.ModeLaws.{stops_in}
use Rattle.rule.proofs.WayLaws.{after_lt}
use Rattle.rule.proofs.LeastLaws.{least_le, least_holds, least_first}
use Rattle.rule.proofs.ShortestLaws.{one_way, way_into_is, way_into_length, met_near}
use Rattle.why.specs.Grounds.{Unmet, Lost, NoneTogether, HaltGround, alone, together, Wanted, a_pair, all_pairs, goal, StoreGround}
use Rattle.why.specs.Grounds.{goal_of, lost_among, unmet_among, lost_pair, wanted_pair, goal_set, way_for}

-- the same goal in other words: only the states count
module _ {n k : ℕ} {next : ℕ → ℕ → ℕ} (closed : (s e : ℕ) → s < n → e < k → next s e < n) {t : ℕ} (b : t < n) where
  pub meets_same : (g h : ℕ → Bool) → ((s : ℕ) → s < n → g s ≡ h s) → {w : List ℕ} → Meets k next g t w → Meets k next h t w
  meets_same g h same m = record { known = m.known; ends = sym (same _ (after_lt n k next closed m.known t b)) ∙ m.ends }

  pub shortest_same : (g h : ℕ → Bool) → ((s : ℕ) → s < n → g s ≡ h s) → {w : List ℕ} → Shortest k next g t w → Shortest k next h t w
  shortest_same g h same l =
      record {
        meets = meets_same g h same l.meets;
        shortest = λ v m. l.shortest v (meets_same h g (λ s c. sym (same s c)) m);
        lowest = λ v m. l.lowest v (meets_same h g (λ s c. sym (same s c)) m);
      }

-- the states where a pair is met, as a set
pub goal_is : (p : Pair) (s : ℕ) → has (goal_of p) s ≡ meets_pair p s
unfolding meets_pair
goal_is p s = has_or p.r p.p s

-- what a store waits for, by the mode
pub goal_pair : (d : Drawing) (i : ℕ) → (d.shape.mode ≡ 1 → ⊥) → (s : ℕ) → goal d i s ≡ meets_pair (pair_at d i) s
unfolding goal
goal_pair d i n s = rw (ne_eqb d.shape.mode 1 n)

pub goal_all : (d : Drawing) (i : ℕ) → d.shape.mode ≡ 1 → (s : ℕ) → goal d i s ≡ meets_all d.pairs s
unfolding goal
goal_all d i j s = rw (eq-eqb d.shape.mode 1 j)

-- the states where it is met, as a set
pub has_goal_set : (d : Drawing) (i s : ℕ) → s < 64 → has (goal_set d i) s ≡ goal d i s
unfolding goal_set goal
has_goal_set d i s l = by (joint d)
  where
    by : (b : Bool) → has (cond b (good_of d) (goal_of (pair_at d i))) s ≡ cond b (meets_all d.pairs s) (meets_pair (pair_at d i) s)
    by true = good_at d s l
    by false = goal_is (pair_at d i) s

module _ (d : Drawing) (well : WellDrawn d) (t : ℕ) (h : t < states d) where
  -- outside P no events lead into P
  stays_out : (i : ℕ) → i < count d → (w : List ℕ) → Events (events d) w → (q : ℕ) → q < states d → has (pair_at d i).p q ≡ false
      → has (pair_at d i).p (after (next d) q w) ≡ false
  stays_out i u [] known q b o = o
  stays_out i u (e ∷ w) (more k known) q b o = stays_out i u w known (next d q e) (well.closed q e b k) (well.none_into i u q e b k o)

  -- a pair stops t exactly where it is lost there
  stops_lost : (i : ℕ) → i < count d → (stops_by (pair_at d i) (reach_of d t) t ≡ true) ↔ Lost d t i
  unfolding meets_pair
  stops_lost i u =
      let s = stops_says d well.closed well.few_states t h (pair_at d i) in (
        λ q.
            let o = (s.0 q).0 in
            let n = (s.0 q).1 in
            let never : (w : List ℕ) → Meets (events d) (next d) (meets_pair (pair_at d i)) t w → ⊥ =
            λ w m.
            ⊎_elim
            (λ r. n (record { state = after (next d) t w; member = r; leads = record { way = w; known = m.known; ends = refl } }))
            (λ p. clash p (stays_out i u w m.known t h o))
            ((or_says (itself (has (pair_at d i).r (after (next d) t w))) (itself (has (pair_at d i).p (after (next d) t w)))).0 m.ends) in
            record { unmet = not_so _ (λ m. never [] (record { known = none; ends = m })); never = never },
        λ l.
            s.1 (
              not_so _ (λ p. clash ((or_says (itself (has (pair_at d i).r t)) (itself (has (pair_at d i).p t))).1 (inr p)) l.unmet),
              λ g.
                  l.never g.leads.way
                  (record {
                    known = g.leads.known;
                    ends = (or_says (itself (has (pair_at d i).r _)) (itself (has (pair_at d i).p _))).1 (inl (rw g.leads.ends g.member));
                  }),
            ),
      )

  -- halt
  abbrev lost_by_pair : ℕ → Bool
  lost_by_pair i = stops_by (pair_at d i) (reach_of d t) t

  lost_lowest : lost_pair d t < count d → LowestPair d (Lost d t) (lost_pair d t)
  unfolding lost_among
  lost_lowest b =
      record {
        used = b;
        fault = (stops_lost (least lost_by_pair (count d)) b).0 (least_holds lost_by_pair (count d) b);
        lower = λ j l f. clash ((stops_lost j (omega arith)).1 f) (least_first lost_by_pair (count d) j l);
      }

  none_lost : count d ≤ lost_pair d t → NoPair d (Lost d t)
  unfolding lost_among
  none_lost l i u f = clash ((stops_lost i u).1 f) (least_first lost_by_pair (count d) i (omega arith))

  -- where no single pair is at fault m is named
  none_named : count d ≤ lost_pair d t → lost_pair d t ≡ count d
  unfolding lost_among
  none_named l = omega (arith, least_le lost_by_pair (count d))

  pub halt_ground : operation_at d t ≡ Halt → HaltGround d t (lost_pair d t)
  halt_ground o =
      below_or (lost_pair d t) (count d) (λ b. alone (lost_lowest b))
      (λ l. rw (none_named l) (by (none_lost l) ((stops_in d well t h).0 ((operation_halt d well t h).0 o))))
    where
      by : NoPair d (Lost d t) → Stops d t → HaltGround d t (count d)
      by free (by_pair n i u s) =
          absurd (free i u ((stops_lost i u).0 ((stops_says d well.closed well.few_states t h (pair_at d i)).1 (s.outside, s.reaches_none))))
      by free (jointly j s) =
          together j free (λ w m. s (record {
            state = after (next d) t w;
            accepted = (all_accept d well.whole _).0 m.ends;
            leads = record { way = w; known = m.known; ends = refl };
          }))

  -- and where there is such a ground it halts
  pub together_halts : d.shape.mode ≡ 1 → NoneTogether d t → operation_at d t ≡ Halt
  together_halts j shut =
      (operation_halt d well t h).1 ((stops_in d well t h).1 (jointly j (λ g.
      shut g.leads.way (record { known = g.leads.known; ends = rw g.leads.ends ((all_accept d well.whole _).1 g.accepted) }))))

  pub lost_halts : (i : ℕ) → i < count d → Lost d t i → operation_at d t ≡ Halt
  lost_halts i u lost = by (ℕ_discrete d.shape.mode 1)
    where
      by : Dec (d.shape.mode ≡ 1) → operation_at d t ≡ Halt
      by (yes j) =
          together_halts j (λ w m. lost.never w (record { known = m.known; ends = (says_meets_all d.pairs _).0 m.ends i (omega (arith, well.whole)) }))
      by (no n) =
          let g = (stops_says d well.closed well.few_states t h (pair_at d i)).0 ((stops_lost i u).1 lost) in
          (operation_halt d well t h).1 ((stops_in d well t h).1 (by_pair n i u (record { outside = g.0; reaches_none = g.1 })))

  -- where every pair is met it dumps
  met_dumps : NoPair d (Unmet d t) → operation_at d t ≡ Dump
  met_dumps free = (operation_dump d well t h).1 ((says_meets_all d.pairs t).1 (λ i b. so _ (free i (omega (arith, well.whole)))))

  pub dump_met : operation_at d t ≡ Dump → NoPair d (Unmet d t)
  dump_met o i u f = clash ((says_meets_all d.pairs t).0 ((operation_dump d well t h).0 o) i (omega (arith, well.whole))) f

  -- store
  module _ (o : operation_at d t ≡ Store) where
    some_left : NoPair d (Unmet d t) → ⊥
    some_left free = let e = met_dumps free in let z : ◌≡◌ {A = ℕ} 0 1 = cc in omega arith

    abbrev unmet_at_is : ℕ → Bool
    unmet_at_is i = not (meets_pair (pair_at d i) t)

    pub some_unmet : unmet_among d.pairs (count d) t < count d
    unfolding unmet_among
    some_unmet =
        below_or (least unmet_at_is (count d)) (count d) (λ l. l)
        (λ l. absurd (some_left (λ i u f. clash (not-false _ (least_first unmet_at_is (count d) i (omega arith))) f)))

    unmet_lowest : LowestPair d (Unmet d t) (unmet_among d.pairs (count d) t)
    unfolding unmet_among
    unmet_lowest =
        record {
          used = some_unmet;
          fault = not-true _ (least_holds unmet_at_is (count d) some_unmet);
          lower = λ j l f. clash (not-false _ (least_first unmet_at_is (count d) j l)) f;
        }

    wanted_is : Wanted d t (wanted_pair d t)
    unfolding wanted_pair
    wanted_is =
        chosen (Wanted d t) (joint d)
        (λ j. all_pairs ((eq_says d.shape.mode 1).0 j) some_left)
        (λ n. a_pair ((eq_fails d.shape.mode 1).0 n) unmet_lowest)

    in_states : (s : ℕ) → s < states d → has (goal_set d (wanted_pair d t)) s ≡ goal d (wanted_pair d t) s
    in_states s c = has_goal_set d (wanted_pair d t) s (omega (arith, well.few_states))

    -- it does not halt, so what is waited for can be met
    pub way_near : distance (next d) (states d) (events d) (goal_set d (wanted_pair d t)) t < states d
    way_near =
        below_or (distance (next d) (states d) (events d) (goal_set d (wanted_pair d t)) t) (states d) (λ l. l)
        (λ l.
        let never : (w : List ℕ) → Meets (events d) (next d) (goal d (wanted_pair d t)) t w → ⊥ =
        λ w m. omega (
          arith,
          met_near d.table (states d) (events d) (goal_set d (wanted_pair d t)) well.closed well.few_states t h w
              (meets_same well.closed h _ _ (λ s c. sym (in_states s c)) m),
        ) in
        let e = by wanted_is never in
        let z : ◌≡◌ {A = ℕ} 0 1 = cc in
        absurd (omega arith))
      where
        by : {i : ℕ} → Wanted d t i → ((w : List ℕ) → Meets (events d) (next d) (goal d i) t w → ⊥) → operation_at d t ≡ Halt
        by (a_pair {i = i} n l) never =
            lost_halts i l.used (record { unmet = l.fault; never = λ w m. never w (record { known = m.known; ends = goal_pair d i n _ ∙ m.ends }) })
        by (all_pairs j some) never = together_halts j (λ w m. never w (record { known = m.known; ends = goal_all d (count d) j _ ∙ m.ends }))

  pub store_ground : operation_at d t ≡ Store → StoreGround d t (wanted_pair d t) (way_for d t)
  unfolding way_for
  store_ground o =
      record {
        wanted = wanted_is o;
        way = shortest_same well.closed h _ _ (in_states o)
            (way_into_is (next d) (states d) (events d) (goal_set d (wanted_pair d t)) well.closed well.few_states t h (way_near o));
      }

  -- each operation exactly where it has its ground
  ground_halts : {i : ℕ} → HaltGround d t i → operation_at d t ≡ Halt
  ground_halts (alone {i = i} l) = lost_halts i l.used l.fault
  ground_halts (together j free shut) = together_halts j shut

  pub halt_when : (operation_at d t ≡ Halt) ↔ ((i : ℕ) × HaltGround d t i)
  halt_when = (λ o. (lost_pair d t, halt_ground o), λ g. ground_halts g.1)

  pub dump_when : (operation_at d t ≡ Dump) ↔ NoPair d (Unmet d t)
  dump_when = (dump_met, met_dumps)

  -- a store: no pair is lost, and what is waited for is not met yet
  pub store_none : operation_at d t ≡ Store → NoPair d (Lost d t)
  store_none o i u lost = let e = lost_halts i u lost in let z : ◌≡◌ {A = ℕ} 0 1 = cc in absurd (omega arith)

  wanted_left : {i : ℕ} → Wanted d t i → NoPair d (Unmet d t) → ⊥
  wanted_left (a_pair {i = i} n l) free = free i l.used l.fault
  wanted_left (all_pairs j some) free = some free

  -- where what is waited for is met by some events, it does not halt
  wanted_hopes : {i j : ℕ} {w : List ℕ} → Wanted d t i → Meets (events d) (next d) (goal d i) t w → NoPair d (Lost d t) → HaltGround d t j → ⊥
  wanted_hopes wanted m free (alone {i = k} l) = free k l.used l.fault
  wanted_hopes (a_pair n l) m free (together j f shut) = n j
  wanted_hopes {w = w} (all_pairs j some) m free (together k f shut) = shut w (record { known = m.known; ends = sym (goal_all d (count d) j _) ∙ m.ends })

  pub store_when : (operation_at d t ≡ Store) ↔ (NoPair d (Lost d t) × ((i : ℕ) × (w : List ℕ) × StoreGround d t i w))
  store_when = (λ o. (store_none o, (wanted_pair d t, way_for d t, store_ground o)), λ g. by (operation_at d t) refl g.0 g.1.2)
    where
      by : (o : Operation) → operation_at d t ≡ o → NoPair d (Lost d t) → {i : ℕ} {w : List ℕ} → StoreGround d t i w → operation_at d t ≡ Store
      by Halt o free g = absurd (wanted_hopes g.wanted g.way.meets free (halt_ground o))
      by Store o free g = o
      by Dump o free g = absurd (wanted_left g.wanted (dump_met o))

  -- a way has one event at least
  met_now : {i : ℕ} → Wanted d t i → goal d i t ≡ true → ⊥
  met_now (a_pair {i = i} n l) m = clash (sym (goal_pair d i n t) ∙ m) l.fault
  met_now (all_pairs j some) m =
      some (λ i u f. clash ((says_meets_all d.pairs t).0 (sym (goal_all d (count d) j t) ∙ m) i (omega (arith, well.whole))) f)

  pub way_some : {i : ℕ} {w : List ℕ} → StoreGround d t i w → 1 ≤ length w
  way_some {w = []} g = absurd (met_now g.wanted g.way.meets.ends)
  way_some {w = e ∷ w} g = omega arith

  -- and fewer than there are states
  pub way_few : {i : ℕ} {w : List ℕ} → StoreGround d t i w → length w < states d
  way_few {i} {w} g =
      let x = goal_set d i in
      let same : (s : ℕ) → s < states d → has x s ≡ goal d i s = λ s c. has_goal_set d i s (omega (arith, well.few_states)) in
      let n = met_near d.table (states d) (events d) x well.closed well.few_states t h w
      (meets_same well.closed h _ _ (λ s c. sym (same s c)) g.way.meets) in
      let v = shortest_same well.closed h _ _ same (way_into_is (next d) (states d) (events d) x well.closed well.few_states t h n) in
      omega (arith, g.way.shortest _ v.meets, way_into_length (next d) (states d) (events d) x t)

-- there is one ground: the lowest pair is one, and so is its way
lowest_one : {d : Drawing} {Fault : ℕ → Type 0} {i j : ℕ} → LowestPair d Fault i → LowestPair d Fault j → i ≡ j
lowest_one {i = i} {j = j} a b =
    below_or i j (λ l. absurd (b.lower i l a.fault)) (λ l. below_or j i (λ m. absurd (a.lower j m b.fault)) (λ m. omega arith))

pub one_halt : {d : Drawing} {t i j : ℕ} → HaltGround d t i → HaltGround d t j → i ≡ j
one_halt (alone a) (alone b) = lowest_one a b
one_halt (alone a) (together j free shut) = absurd (free _ a.used a.fault)
one_halt (together j free shut) (alone b) = absurd (free _ b.used b.fault)
one_halt (together j free shut) (together k f n) = refl

wanted_one : {d : Drawing} {t i j : ℕ} → Wanted d t i → Wanted d t j → i ≡ j
wanted_one (a_pair n a) (a_pair m b) = lowest_one a b
wanted_one (a_pair n a) (all_pairs j some) = absurd (n j)
wanted_one (all_pairs j some) (a_pair n b) = absurd (n j)
wanted_one (all_pairs j some) (all_pairs k left) = refl

pub one_store : {d : Drawing} {t i j : ℕ} {v w : List ℕ} → StoreGround d t i v → StoreGround d t j w → (i ≡ j) × (v ≡ w)
one_store {d} {t} {w = w} a b =
    let same = wanted_one a.wanted b.wanted in
    (same, one_way a.way (rw (← same) at b.way))
