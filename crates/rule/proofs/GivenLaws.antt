-- Each of the conditions 5 to 9, and what it says of the drawing: sound exactly when no cell or pair has the fault, and refused with
-- its places exactly when those are the first. Assumes nothing.
use Prim.Native.Nat.{ℕ, ◌≤◌, ◌<◌}
use native.Mathlib.Omega.{arith}
use mathlib.Core.Path.{◌≡◌, refl, ap, ◌∙◌}
use mathlib.Core.Bool.{Bool, true}
use mathlib.Core.Logic.{◌⊎◌, inl, inr, ⊎_elim, ◌↔◌}
use lib.ListN.{length}
use lib.Dec.{leb}
use borrow.Author.Tests.{leb-true, le-leb}
use Rattle.rule.specs.Sets.{has, is_empty, names_past}
use Rattle.rule.specs.Reach.{Closed}
use Rattle.rule.specs.Drawing.{Drawing, states, events, count, initial, next, pair_at, joint, state_no, event_no}
use Rattle.rule.specs.Operations.{reach_of}
use Rattle.rule.specs.Stopping.{stops_by, stopping_joint}
use Rattle.rule.specs.Classes.{moves_into, moves_out, forbids, forbids_some}
use Rattle.rule.specs.Published.{In, Out}
use Rattle.rule.specs.Refusals.{refuse_if, or_else, first_below, first_cell, entries, member_at, members}
use Rattle.rule.specs.Refusals.{exceeds, excess, moves, stopped_pairs, stopped_joint, stopped, first_of}
use Rattle.rule.specs.Refusals.{conditions}
use Rattle.rule.specs.Given.{FirstCell, LowestPair, NoCell, NoPair, BadEntry, Names, BadPair, BadSide, by_R, only_P, BadMember, TooMuch, with_R}
use Rattle.rule.specs.Given.{with_P, Forbidden, into_P, out_of_R, StopsBy, Stops, by_pair, jointly, Named, lowest, no_single, StoppedBy}
use Rattle.rule.specs.Joint.{JointStop}
use Rattle.rule.specs.declared.Pair.{Pair}
use Rattle.rule.specs.declared.Refusal.{Refusal}
use Rattle.rule.specs.declared.Refusal.TheVariants.{Entry, Member, Excess, Move, Stopping}
use Rattle.rule.proofs.BoolLaws.{clash, not_so, chosen, Says, itself, eq_says, eq_fails, and_says, or_says, not_says, ne_says, in_words}
use Rattle.rule.proofs.SetLaws.{below_or, true_or, names_iff}
use Rattle.rule.proofs.PairLaws.{Some, some_says}
use Rattle.rule.proofs.StoppingLaws.{stops_says, joint_stops}
use Rattle.rule.proofs.RefusalLaws.{not_both, sound_or, refuse_sound, refuse_refused, else_sound, below_sound_iff, below_refused_iff, cells_sound_iff}
use Rattle.rule.proofs.RefusalLaws.{cells_refused_iff, first_sound}
use Rattle.rule.specs.Verdict.{Verdict}
use Rattle.std.specs.Prelude.{Ok, Err}

-- a verdict that refuses exactly where there is the fault
record Judges (v : Verdict) (Fault : Type 0) : Type 0 where
  hits : (r : Refusal) → v ≡ Err r → Fault
  clears : v ≡ Ok tt → Fault → ⊥

sound_of : {Fault : Type 0} (v : Verdict) → Judges v Fault → (Fault → ⊥) → v ≡ Ok tt
sound_of v j n = sound_or v (λ p. p) (λ r p. absurd (n (j.hits r p)))

by_test : {Fault : Type 0} (b : Bool) (r : Refusal) → (b ≡ true) ↔ Fault → Judges (refuse_if b r) Fault
by_test b r i = record {
  hits = λ s p. i.0 ((refuse_refused b r s).0 p).0;
  clears = λ p f. clash (i.1 f) ((refuse_sound b r).0 p);
}

-- over the pairs
module _ (d : Drawing) (f : ℕ → Verdict) (Fault : ℕ → Type 0) (judges : (i : ℕ) → i < count d → Judges (f i) (Fault i)) where
  pairs_sound : (first_below f (count d) ≡ Ok tt) ↔ NoPair d Fault
  pairs_sound = (
    λ p i h. (judges i h).clears ((below_sound_iff f (count d)).0 p i h),
    λ n. (below_sound_iff f (count d)).1 (λ i h. sound_of (f i) (judges i h) (n i h)),
  )

  -- and the refusal is that of the lowest
  pairs_refused : (r : Refusal) → (first_below f (count d) ≡ Err r) ↔ ((i : ℕ) × (f i ≡ Err r) × LowestPair d Fault i)
  pairs_refused r = (
    λ p.
        let g = (below_refused_iff f (count d) r).0 p in
        let used = g.below in (
          g.at,
          g.refused,
          record { used = used; fault = (judges g.at used).hits r g.refused; lower = λ j h. (judges j (omega arith)).clears (g.earlier j h) },
        ),
    λ p. (below_refused_iff f (count d) r).1 (record {
      at = p.0;
      below = p.2.used;
      refused = p.1;
      earlier = λ j h. sound_of (f j) (judges j (omega (arith, p.2.used))) (p.2.lower j h);
    }),
  )

-- over the cells
module _ (d : Drawing) (f : ℕ → ℕ → Verdict) (Fault : ℕ → ℕ → Type 0)
    (judges : (s e : ℕ) → s < states d → e < events d → Judges (f s e) (Fault s e)) where
  all_cells_sound : (first_cell f (states d) (events d) ≡ Ok tt) ↔ NoCell d Fault
  all_cells_sound = (
    λ p s e hs he. (judges s e hs he).clears ((cells_sound_iff f (events d) (states d)).0 p s e hs he),
    λ n. (cells_sound_iff f (events d) (states d)).1 (λ s e hs he. sound_of (f s e) (judges s e hs he) (n s e hs he)),
  )

  -- and the refusal is that of the first
  cell_refused : (r : Refusal) → (first_cell f (states d) (events d) ≡ Err r) ↔ ((s e : ℕ) × (f s e ≡ Err r) × FirstCell d Fault s e)
  cell_refused r = (
    λ p.
        let g = (cells_refused_iff f (events d) (states d) r).0 p in
        let hs = g.state_in in
        let he = g.event_in in (
          g.state,
          g.event,
          g.refused,
          record {
            state_in = hs;
            event_in = he;
            fault = (judges g.state g.event hs he).hits r g.refused;
            rows_before = λ s' e' h h'. (judges s' e' (omega arith) h').clears (g.rows_before s' e' h h');
            cells_before = λ e' h. (judges g.state e' hs (omega arith)).clears (g.cells_before e' h);
          },
        ),
    λ p. (cells_refused_iff f (events d) (states d) r).1 (record {
      state = p.0;
      event = p.1;
      state_in = p.3.state_in;
      event_in = p.3.event_in;
      refused = p.2;
      rows_before = λ s' e' h h'. sound_of (f s' e') (judges s' e' (omega (arith, p.3.state_in)) h') (p.3.rows_before s' e' h h');
      cells_before = λ e' h. sound_of (f p.0 e') (judges p.0 e' p.3.state_in (omega (arith, p.3.event_in))) (p.3.cells_before e' h);
    }),
  )

-- where a test decides and the refusal names the place
module _ (d : Drawing) (test : ℕ → Bool) (name : ℕ → Refusal) (Fault : ℕ → Type 0) (says : (i : ℕ) → i < count d → (test i ≡ true) ↔ Fault i) where
  tested : (i : ℕ) → i < count d → Judges (refuse_if (test i) (name i)) (Fault i)
  tested i h = by_test (test i) (name i) (says i h)

  pair_tests_sound : (first_below (λ i. refuse_if (test i) (name i)) (count d) ≡ Ok tt) ↔ NoPair d Fault
  pair_tests_sound = pairs_sound d (λ i. refuse_if (test i) (name i)) Fault tested

  pair_tests_refused : (r : Refusal)
      → (first_below (λ i. refuse_if (test i) (name i)) (count d) ≡ Err r) ↔ ((i : ℕ) × (name i ≡ r) × LowestPair d Fault i)
  pair_tests_refused r =
      let g = pairs_refused d (λ i. refuse_if (test i) (name i)) Fault tested r in (
        λ p. let l = g.0 p in (l.0, ((refuse_refused (test l.0) (name l.0) r).0 l.1).1, l.2),
        λ l. g.1 (l.0, (refuse_refused (test l.0) (name l.0) r).1 ((says l.0 l.2.used).1 l.2.fault, l.1), l.2),
      )

module _ (d : Drawing) (test : ℕ → ℕ → Bool) (name : ℕ → ℕ → Refusal) (Fault : ℕ → ℕ → Type 0)
    (says : (s e : ℕ) → s < states d → e < events d → (test s e ≡ true) ↔ Fault s e) where
  cell_tested : (s e : ℕ) → s < states d → e < events d → Judges (refuse_if (test s e) (name s e)) (Fault s e)
  cell_tested s e hs he = by_test (test s e) (name s e) (says s e hs he)

  cell_tests_sound : (first_cell (λ s e. refuse_if (test s e) (name s e)) (states d) (events d) ≡ Ok tt) ↔ NoCell d Fault
  cell_tests_sound = all_cells_sound d (λ s e. refuse_if (test s e) (name s e)) Fault cell_tested

  cell_tests_refused : (r : Refusal) → (first_cell (λ s e. refuse_if (test s e) (name s e)) (states d) (events d) ≡ Err r)
      ↔ ((s e : ℕ) × (name s e ≡ r) × FirstCell d Fault s e)
  cell_tests_refused r =
      let g = cell_refused d (λ s e. refuse_if (test s e) (name s e)) Fault cell_tested r in (
        λ p. let l = g.0 p in (l.0, l.1, ((refuse_refused (test l.0 l.1) (name l.0 l.1) r).0 l.2).1, l.3),
        λ l. g.1 (
          l.0,
          l.1,
          (refuse_refused (test l.0 l.1) (name l.0 l.1) r).1 ((says l.0 l.1 l.3.state_in l.3.event_in).1 l.3.fault, l.2),
          l.3,
        ),
      )

-- 5

abbrev entry_test : Drawing → ℕ → ℕ → Bool
entry_test d s e = leb (states d) (next d s e)

entry_says : (d : Drawing) (s e : ℕ) → Says (entry_test d s e) (BadEntry d s e)
entry_says d s e = (leb-true (states d) (next d s e), le-leb (states d) (next d s e))

abbrev entry_name : ℕ → ℕ → Refusal
entry_name s e = Entry (state_no s) (event_no e)

no_bad_entry : (d : Drawing) → (entries d ≡ Ok tt) ↔ NoCell d (BadEntry d)
unfolding entries
no_bad_entry d = cell_tests_sound d (entry_test d) entry_name (BadEntry d) (λ s e hs he. entry_says d s e)

pub entries_sound : (d : Drawing) → (entries d ≡ Ok tt) ↔ Closed d.table (states d) (events d)
entries_sound d = (
  λ p s e hs he. below_or (next d s e) (states d) (λ h. h) (λ h. absurd ((no_bad_entry d).0 p s e hs he h)),
  λ c. (no_bad_entry d).1 (λ s e hs he b. omega (arith, c s e hs he)),
)

pub entries_refused : (d : Drawing) (x : Refusal) → (entries d ≡ Err x) ↔ ((s e : ℕ) × (entry_name s e ≡ x) × FirstCell d (BadEntry d) s e)
unfolding entries
entries_refused d = cell_tests_refused d (entry_test d) entry_name (BadEntry d) (λ s e hs he. entry_says d s e)

-- 6

names_says : (n x : ℕ) → (names_past n x ≡ true) ↔ Names n x
names_says n x = (
  λ p. let g = (names_iff n x).0 p in record { state = g.0; past = g.1; member = g.2 },
  λ g. (names_iff n x).1 (g.state, g.past, g.member),
)

module _ (d : Drawing) (i : ℕ) where
  abbrev past_r : Bool
  past_r = names_past (states d) (pair_at d i).r

  abbrev past_p : Bool
  past_p = names_past (states d) (pair_at d i).p

  member_by : (x : Refusal) → member_at d i ≡ Err x → (side : ℕ) × (Member i side ≡ x) × BadSide d i side
  member_by x p =
      true_or past_r
      (λ a. let q : Err (Member i 0) ≡ Err x = rw a at p in (0, cc, by_R ((names_says (states d) (pair_at d i).r).0 a)))
      (λ a.
      let t = (refuse_refused past_p (Member i 1) x).0 (rw a at p) in
      (1, t.1, only_P (λ n. clash ((names_says (states d) (pair_at d i).r).1 n) a) ((names_says (states d) (pair_at d i).p).0 t.0)))

  of_side : {side : ℕ} → BadSide d i side → member_at d i ≡ Err (Member i side)
  of_side (by_R n) = rw ((names_says (states d) (pair_at d i).r).1 n)
  of_side (only_P o n) =
      rw (not_so past_r (λ a. o ((names_says (states d) (pair_at d i).r).0 a)), (names_says (states d) (pair_at d i).p).1 n)

  member_judges : Judges (member_at d i) (BadPair d i)
  member_judges = record {
    hits = λ r p. true_or past_r
        (λ a. inl ((names_says (states d) (pair_at d i).r).0 a))
        (λ a. inr ((names_says (states d) (pair_at d i).p).0 ((refuse_refused past_p (Member i 1) r).0 (rw a at p)).0));
    clears = λ p f.
        let both = (else_sound (refuse_if past_r (Member i 0)) (refuse_if past_p (Member i 1))).0 p in
        ⊎_elim
        (λ n. clash ((names_says (states d) (pair_at d i).r).1 n) ((refuse_sound past_r (Member i 0)).0 both.0))
        (λ n. clash ((names_says (states d) (pair_at d i).p).1 n) ((refuse_sound past_p (Member i 1)).0 both.1))
        f;
  }

pub members_sound : (d : Drawing) → (members d ≡ Ok tt) ↔ NoPair d (BadPair d)
unfolding members
members_sound d = pairs_sound d (member_at d) (BadPair d) (λ i h. member_judges d i)

pub members_refused : (d : Drawing) (x : Refusal) → (members d ≡ Err x) ↔ ((i side : ℕ) × (Member i side ≡ x) × BadMember d i side)
unfolding members
members_refused d x =
    let g = pairs_refused d (member_at d) (BadPair d) (λ i h. member_judges d i) x in (
      λ p. let l = g.0 p in let b = member_by d l.0 x l.1 in (l.0, b.0, b.1, record { lowest = l.2; by_side = b.2 }),
      λ b. g.1 (b.0, of_side d b.0 b.3.by_side ∙ ap Err b.2, b.3.lowest),
    )

-- 7

exceeds_says : (d : Drawing) → Says (exceeds d) (TooMuch d)
unfolding exceeds is_empty
exceeds_says d =
    in_words
    (or_says
    (and_says (eq_says d.shape.class 1) (ne_says (eq_says (pair_at d 0).r 0)))
    (and_says (or_says (eq_says d.shape.class 2) (eq_says d.shape.class 4)) (ne_says (eq_says (pair_at d 0).p 0))))
    (⊎_elim (λ b. with_R b.0 b.1) (λ b. with_P b.0 b.1))
    back
  where
    back : TooMuch d → ((d.shape.class ≡ 1) × ((pair_at d 0).r ≡ 0 → ⊥)) ⊎ (((d.shape.class ≡ 2) ⊎ (d.shape.class ≡ 4)) × ((pair_at d 0).p ≡ 0 → ⊥))
    back (with_R c n) = inl (c, n)
    back (with_P c n) = inr (c, n)

pub excess_sound : (d : Drawing) → (excess d ≡ Ok tt) ↔ (TooMuch d → ⊥)
unfolding excess
excess_sound d = (
  λ p t. clash ((exceeds_says d).1 t) ((refuse_sound (exceeds d) Excess).0 p),
  λ n. (refuse_sound (exceeds d) Excess).1 (not_so (exceeds d) (λ p. n ((exceeds_says d).0 p))),
)

pub excess_refused : (d : Drawing) (x : Refusal) → (excess d ≡ Err x) ↔ ((Excess ≡ x) × TooMuch d)
unfolding excess
excess_refused d x = (
  λ p. let g = (refuse_refused (exceeds d) Excess x).0 p in (g.1, (exceeds_says d).0 g.0),
  λ t. (refuse_refused (exceeds d) Excess x).1 ((exceeds_says d).1 t.1, t.0),
)

-- 8

abbrev ClassOf : Drawing → ℕ → Type 0
ClassOf d c = d.shape.class ≡ c

-- what the class forbids of a move from s to t for the pair
data Forbids (d : Drawing) (p : Pair) (s t : ℕ) : Type 0 where
  into : (ClassOf d 1 ⊎ ClassOf d 3) → Out p.p s → In p.p t → Forbids d p s t
  out : (ClassOf d 2 ⊎ ClassOf d 3) → In p.r s → Out p.r t → Forbids d p s t

forbids_says : (d : Drawing) (p : Pair) (s t : ℕ) → Says (forbids d.shape.class p s t) (Forbids d p s t)
unfolding forbids moves_into moves_out
forbids_says d p s t =
    in_words
    (or_says
    (and_says (or_says (eq_says d.shape.class 1) (eq_says d.shape.class 3)) (and_says (not_says (has p.p s)) (itself (has p.p t))))
    (and_says (or_says (eq_says d.shape.class 2) (eq_says d.shape.class 3)) (and_says (itself (has p.r s)) (not_says (has p.r t)))))
    (⊎_elim (λ b. into b.0 b.1.0 b.1.1) (λ b. out b.0 b.1.0 b.1.1))
    back
  where
    back : Forbids d p s t → ((ClassOf d 1 ⊎ ClassOf d 3) × (Out p.p s × In p.p t)) ⊎ ((ClassOf d 2 ⊎ ClassOf d 3) × (In p.r s × Out p.r t))
    back (into c a b) = inl (c, (a, b))
    back (out c a b) = inr (c, (a, b))

abbrev move_test : Drawing → ℕ → ℕ → Bool
move_test d s e = forbids_some d.shape.class d.pairs s (next d s e)

abbrev move_name : ℕ → ℕ → Refusal
move_name s e = Move (state_no s) (event_no e)

module _ (d : Drawing) (whole : length d.pairs ≡ count d) where
  forbidden_says : (s e : ℕ) → Says (move_test d s e) (Forbidden d s e)
  unfolding forbids_some
  forbidden_says s e =
      in_words
      (some_says (λ ps. forbids_some d.shape.class ps s (next d s e)) (λ p. forbids d.shape.class p s (next d s e)) refl (λ p ps. refl)
      (λ p. Forbids d p s (next d s e)) (λ p. forbids_says d p s (next d s e)) d.pairs)
      (λ g. to g.0 (omega (arith, g.1)) g.2)
      back
    where
      to : (i : ℕ) → i < count d → Forbids d (pair_at d i) s (next d s e) → Forbidden d s e
      to i h (into c a b) = into_P i h c a b
      to i h (out c a b) = out_of_R i h c a b

      back : Forbidden d s e → Some (λ p. Forbids d p s (next d s e)) d.pairs
      back (into_P i h c a b) = (i, omega arith, into c a b)
      back (out_of_R i h c a b) = (i, omega arith, out c a b)

  pub moves_sound : (moves d ≡ Ok tt) ↔ NoCell d (Forbidden d)
  unfolding moves
  moves_sound =
      cell_tests_sound d (move_test d) move_name (Forbidden d)
      (λ s e hs he. forbidden_says s e)

  pub moves_refused : (x : Refusal) → (moves d ≡ Err x) ↔ ((s e : ℕ) × (move_name s e ≡ x) × FirstCell d (Forbidden d) s e)
  unfolding moves
  moves_refused =
      cell_tests_refused d (move_test d) move_name (Forbidden d)
      (λ s e hs he. forbidden_says s e)

-- 9

abbrev stop_test : Drawing → ℕ → Bool
stop_test d i = stops_by (pair_at d i) (reach_of d (initial d)) (initial d)

module _ (d : Drawing) (closed : Closed d.table (states d) (events d)) (small : states d ≤ 64) (start : initial d < states d) where
  stop_says : (i : ℕ) → Says (stop_test d i) (StopsBy d (initial d) i)
  stop_says i =
      in_words (stops_says d closed small (initial d) start (pair_at d i))
      (λ g. record { outside = g.0; reaches_none = g.1 })
      (λ g. (g.outside, g.reaches_none))

  alone_sound : (stopped_pairs d ≡ Ok tt) ↔ NoPair d (StopsBy d (initial d))
  unfolding stopped_pairs
  alone_sound =
      pair_tests_sound d (stop_test d) Stopping (StopsBy d (initial d))
      (λ i h. stop_says i)

  alone_refused : (x : Refusal) → (stopped_pairs d ≡ Err x) ↔ ((i : ℕ) × (Stopping i ≡ x) × LowestPair d (StopsBy d (initial d)) i)
  unfolding stopped_pairs
  alone_refused =
      pair_tests_refused d (stop_test d) Stopping (StopsBy d (initial d))
      (λ i h. stop_says i)

  -- in mode 0
  module _ (n : d.shape.mode ≡ 1 → ⊥) where
    some_pair : Stops d (initial d) → NoPair d (StopsBy d (initial d)) → ⊥
    some_pair (by_pair m i h s) none = none i h s
    some_pair (jointly m s) none = n m

    pairs_refuse : (i : ℕ) → StoppedBy d i ↔ LowestPair d (StopsBy d (initial d)) i
    pairs_refuse i = (
      λ s. by s.named s.stops,
      λ l. record { stops = by_pair n i l.used l.fault; named = lowest l },
    )
      where
        by : {i : ℕ} → Named d (StopsBy d (initial d)) i → Stops d (initial d) → LowestPair d (StopsBy d (initial d)) i
        by (lowest l) s = l
        by (no_single none) s = absurd (some_pair s none)

  -- in joint mode
  module _ (j : d.shape.mode ≡ 1) (whole : length d.pairs ≡ count d) where
    joint_says : Says (stopping_joint d (initial d)) (Stops d (initial d))
    joint_says = in_words (joint_stops d closed small whole (initial d) start) (jointly j) from
      where
        from : Stops d (initial d) → JointStop d (initial d)
        from (by_pair m i h s) = absurd (m j)
        from (jointly m s) = s

    -- the pair that is named
    named_pair : (x : Refusal) → (or_else (stopped_pairs d) (Err (Stopping (count d))) ≡ Err x)
        ↔ ((i : ℕ) × (Stopping i ≡ x) × Named d (StopsBy d (initial d)) i)
    named_pair x = (
      λ p. sound_or (stopped_pairs d)
          (λ s. (count d, let q : Err (Stopping (count d)) ≡ Err x = rw s at p in cc, no_single (alone_sound.0 s)))
          (λ r q.
          let l = (alone_refused x).0 (q ∙ rw q at p) in
          (l.0, l.1, lowest l.2)),
      λ g. rw (← g.1) (by g.2),
    )
      where
        by : {i : ℕ} → Named d (StopsBy d (initial d)) i → or_else (stopped_pairs d) (Err (Stopping (count d))) ≡ Err (Stopping i)
        by (lowest {i = i} l) = rw ((alone_refused (Stopping i)).1 (i, refl, l))
        by (no_single none) = rw (alone_sound.1 none)

    jointly_sound : (stopped_joint d ≡ Ok tt) ↔ (Stops d (initial d) → ⊥)
    unfolding stopped_joint
    jointly_sound = (
      λ p s. let t = joint_says.1 s in
          sound_or (stopped_pairs d)
          (λ a. not_both (rw (t, a) at p) refl)
          (λ r a. not_both (rw (t, a) at p) refl),
      λ n. rw (not_so (stopping_joint d (initial d)) (λ p. n (joint_says.0 p))),
    )

    jointly_refused : (x : Refusal) → (stopped_joint d ≡ Err x) ↔ ((i : ℕ) × (Stopping i ≡ x) × StoppedBy d i)
    unfolding stopped_joint
    jointly_refused x = (
      λ p. true_or (stopping_joint d (initial d))
          (λ t. let g = (named_pair x).0 (rw t at p) in (g.0, g.1, record { stops = joint_says.0 t; named = g.2 }))
          (λ o. not_both refl (rw o at p)),
      λ g. rw (joint_says.1 g.2.stops) ((named_pair x).1 (g.0, g.1, g.2.named)),
    )

  module _ (whole : length d.pairs ≡ count d) where
    pub stopped_sound : (stopped d ≡ Ok tt) ↔ (Stops d (initial d) → ⊥)
    unfolding stopped
    stopped_sound =
        chosen (λ v. (v ≡ Ok tt) ↔ (Stops d (initial d) → ⊥)) (joint d)
        (λ t. jointly_sound ((eq_says d.shape.mode 1).0 t) whole)
        (λ o. let n = (eq_fails d.shape.mode 1).0 o in (
          λ p s. some_pair n s (alone_sound.0 p),
          λ none. alone_sound.1 (λ i h s. none (by_pair n i h s)),
        ))

    pub stopped_refused : (x : Refusal) → (stopped d ≡ Err x) ↔ ((i : ℕ) × (Stopping i ≡ x) × StoppedBy d i)
    unfolding stopped
    stopped_refused x =
        chosen (λ v. (v ≡ Err x) ↔ ((i : ℕ) × (Stopping i ≡ x) × StoppedBy d i)) (joint d)
        (λ t. jointly_refused ((eq_says d.shape.mode 1).0 t) whole x)
        (λ o. let n = (eq_fails d.shape.mode 1).0 o in (
          λ p. let l = (alone_refused x).0 p in (l.0, l.1, (pairs_refuse n l.0).1 l.2),
          λ l. (alone_refused x).1 (l.0, l.1, (pairs_refuse n l.0).0 l.2),
        ))

-- each condition by itself is sound
pub conditions_sound : (d : Drawing) → first_of (conditions d) ≡ Ok tt
    → (entries d ≡ Ok tt) × (members d ≡ Ok tt) × (excess d ≡ Ok tt) × (moves d ≡ Ok tt) × (stopped d ≡ Ok tt)
conditions_sound d p0 =
    let p1 = (first_sound (entries d) _).0 p0 in
    let p2 = (first_sound (members d) _).0 p1.1 in
    let p3 = (first_sound (excess d) _).0 p2.1 in
    let p4 = (first_sound (moves d) _).0 p3.1 in
    let p5 = (first_sound (stopped d) _).0 p4.1 in
    (p1.0, p2.0, p3.0, p4.0, p5.0)
