-- Laws of the checks 5 to 9.
-- Assumes nothing.
use Rattle.std.proofs.Common.{◌≡◌, ℕ, zero, suc, ◌+◌, ◌-◌, ◌/◌, ◌^◌, ◌≤◌, ◌<◌, Bool, true, false, not, ◌&&◌, ◌||◌, eqb, ltb}
use Rattle.std.proofs.Common.{List, [], ◌∷◌, Ok, Err, length, get_or, take, sym, refl, ap, ◌∙◌, arith}
use native.Mathlib.Nat.{lt_of_lt_of_le, le_of_suc-le-suc}
use lib.Pow.{pow_mono}
use lib.ListN.{get_or-eq_default}
use borrow.Author.Tests.{le-leb}
use Rattle.std.specs.List.{list_all, list_any}
use Rattle.std.proofs.lemmas.Bool.Decides.{nat_tests}
use Rattle.std.proofs.lemmas.List.Folds.{list_any_more}
use Rattle.rule.specs.Acceptance.{meets_all, good_of}
use Rattle.rule.specs.Classes.{forbids, forbids_some, moves_into, moves_out}
use Rattle.rule.specs.Drawing.{Drawing, states, events, next, body, no_pair, state_no, event_no}
use Rattle.rule.specs.Operations.{reach_of}
use Rattle.rule.specs.Reach.{place_of, target, reached_within, Closed}
use Rattle.rule.specs.Refusals.{or_else, first_below, first_cell, entry_at, entries, members, exceeds, excess, move_at, moves}
use Rattle.rule.specs.Refusals.{stopped_pairs, stopped_joint, stopped, conditions}
use Rattle.rule.specs.Sets.{has, those, meets, Members, is_empty, names_past}
use Rattle.rule.specs.Stopping.{stopping_joint}
use Rattle.rule.specs.Verdict.{Verdict}
use Rattle.rule.specs.Ways.{least, event_into}
use Rattle.rule.specs.declared.Pair.{Pair}
use Rattle.rule.specs.declared.Shape.{Shape}
use Rattle.rule.specs.declared.Refusal.{Refusal}
use Rattle.rule.specs.declared.Refusal.TheVariants.{Entry, Move}
use Rattle.rule.proofs.BoolLaws.{and_says, itself, lt_says}
use Rattle.rule.proofs.GivenLaws.{entries_sound}
use Rattle.rule.proofs.LeastLaws.{least_le, least_holds, least_first, least_is, least_none}
use Rattle.rule.proofs.SetLaws.{below_or, has_none, has_not, has_or, and_none, and_some, names_none}
use Rattle.rule.proofs.RefusalLaws.{below_none, below_more, below_hit, below_end, sound_below}
use Rattle.rule.proofs.RefusalLaws.{cells_none, cells_more, cells_hit, cells_end, cells_sound_iff}
use Rattle.checks.specs.Checked.{first_forbidden}

-- what a test of numbers comes to
pub ruleset tests = nat_tests

-- the steps of a loop that stops at the first refusal
pub ruleset steps = (below_none, below_more, below_hit, below_end)

-- 5: no entry of a table whose entries are all below N
module _ (n : ℕ) where
  low_at : (table : List ℕ) → list_all (λ x. ltb x n) table ≡ true → (i : ℕ) → i < length table → get_or table i 0 < n
  low_at [] p i h = absurd (omega arith)
  low_at (x ∷ l) p zero h = ((and_says (lt_says x n) (itself (list_all (λ x. ltb x n) l))).0 p).0
  low_at (x ∷ l) p (suc i) h = low_at l ((and_says (lt_says x n) (itself (list_all (λ x. ltb x n) l))).0 p).1 i (le_of_suc-le-suc h)

  -- past the table it is 0
  pub low : (table : List ℕ) → list_all (λ x. ltb x n) table ≡ true → 0 < n → (k s e : ℕ) → target table k s e < n
  unfolding target
  low table p z k s e =
      below_or (place_of k s e) (length table)
      (λ h. low_at table p (place_of k s e) h)
      (λ h. rw (get_or-eq_default table 0 {n = place_of k s e} h) z)

pub entries_low : (d : Drawing) {b : Bool} → b ≡ list_all (λ x. ltb x (states d)) d.table → b ≡ true → Ok tt ≡ entries d
entries_low d p t = sym ((entries_sound d).1 (λ s e hs he. low (states d) d.table (sym p ∙ t) (omega arith) (events d) s e))

pub entry_hit : (d : Drawing) (s e : ℕ) → first_cell (entry_at d) s (events d) ≡ Ok tt → first_below (entry_at d s) e ≡ Ok tt
    → states d ≤ next d s e → s < states d → e < events d → entries d ≡ Err (Entry (state_no s) (event_no e))
unfolding entries
entry_hit d s e rows none high hs he = cells_hit (entry_at d) (events d) s e _ rows none (rw (le-leb (states d) (next d s e) high)) (states d) hs he

pub entries_closed : (d : Drawing) → Ok tt ≡ entries d → Closed d.table (states d) (events d)
entries_closed d e = (entries_sound d).0 (sym e)

pub ruleset cells = (below_none, below_more, cells_none, cells_more, cells_end, entry_hit)

-- 6: a set that can hold the states names none past 64
pub names_shifted : (n x : ℕ) → not (eqb (x / 2 ^ n) 0) ≡ names_past n x
unfolding names_past is_empty
names_shifted n x = refl

pub names_far : (n x : ℕ) → x < 2 ^ 64 → 64 ≤ n → names_past n x ≡ false
names_far n x h k = names_none n x (lt_of_lt_of_le h (pow_mono k))

-- 8: the set of what the class forbids
pub ruleset sets = (has_none, has_not, has_or)

-- pair by pair
pub some_any : (class : ℕ) (ps : List Pair) (s t : ℕ) → list_any (λ p. forbids class p s t) ps ≡ forbids_some class ps s t
unfolding forbids_some
some_any class [] s t = refl
some_any class (p ∷ ps) s t = ap (λ b. forbids class p s t || b) (some_any class ps s t)

pub some_more : (class : ℕ) (ps : List Pair) (i s t : ℕ) → i < length ps
    → forbids_some class (take (i + 1) ps) s t ≡ forbids_some class (take i ps) s t || forbids class (get_or ps i no_pair) s t
some_more class ps i s t h =
    rw (← some_any class (take (i + 1) ps) s t, ← some_any class (take i ps) s t) (list_any_more (λ p. forbids class p s t) ps i no_pair h)

-- move by move
pub forbids_is : (class : ℕ) (p : Pair) (s t : ℕ) → forbids class p s t
    ≡ ((eqb class 1 || eqb class 3) && (not (has p.p s) && has p.p t)) || ((eqb class 2 || eqb class 3) && (has p.r s && not (has p.r t)))
unfolding forbids moves_into moves_out
forbids_is class p s t = refl

-- the empty pair forbids nothing
forbids_none : (class s t : ℕ) → forbids class no_pair s t ≡ false
unfolding forbids moves_into moves_out
forbids_none class s t = rw (has_none s, has_none t) (neither (eqb class 1 || eqb class 3) (eqb class 2 || eqb class 3))
  where
    neither : (a b : Bool) → (a && false) || (b && false) ≡ false
    neither true true = refl
    neither true false = refl
    neither false true = refl
    neither false false = refl

-- row by row
module _ (d : Drawing) (s : ℕ) where
  abbrev is_forbidden : ℕ → Bool
  is_forbidden e = forbids_some d.shape.class d.pairs s (next d s e)

  -- in a row whose targets sets can hold, by the set of what is forbidden
  module _ (x : ℕ) (members : Members x (forbids_some d.shape.class d.pairs s)) (held : states d ≤ 64)
      (closed : Closed d.table (states d) (events d)) (l : s < states d) where
    agree : (e : ℕ) → e < events d → has x (next d s e) ≡ is_forbidden e
    agree e h = members (next d s e) (omega (arith, closed s e l h))

    pub forbidden_by_set : event_into (next d) (events d) x s ≡ first_forbidden d s
    unfolding event_into first_forbidden
    forbidden_by_set =
        let p : ℕ → Bool = λ e. has x (next d s e) in
        let at = least p (events d) in
        let le = least_le p (events d) in
        let before : (i : ℕ) → i < at → is_forbidden i ≡ false = λ i h. sym (agree i (omega arith)) ∙ least_first p (events d) i h in
        below_or at (events d)
        (λ h. sym (least_is is_forbidden (events d) at h (sym (agree at h) ∙ least_holds p (events d) h) before))
        (λ h. let q : at ≡ events d = omega arith in q ∙ sym (least_none is_forbidden (events d) (λ i l. before i (omega arith))))

  -- the first forbidden cell
  pub move_hit : (e : ℕ) → first_cell (move_at d) s (events d) ≡ Ok tt → first_below (move_at d s) e ≡ Ok tt
      → is_forbidden e ≡ true → s < states d → e < events d → moves d ≡ Err (Move (state_no s) (event_no e))
  unfolding moves
  move_hit e rows none here hs he = cells_hit (move_at d) (events d) s e _ rows none (rw here) (states d) hs he

  -- a row is sound up to its first forbidden move
  module _ (e : ℕ) (is : e ≡ first_forbidden d s) (rows : first_cell (move_at d) s (events d) ≡ Ok tt) where
    passed : first_below (move_at d s) e ≡ Ok tt
    unfolding first_forbidden
    passed = sound_below (move_at d s) e (λ i h. rw (least_first is_forbidden (events d) i (rw is at h)))

    pub row_none : events d ≤ e → first_cell (move_at d) (s + 1) (events d) ≡ Ok tt
    unfolding first_forbidden
    row_none none = cells_more (move_at d) (events d) s e rows passed (rw is (least_le is_forbidden (events d))) none

    pub row_hit : e < events d → s < states d → Err (Move (state_no s) (event_no e)) ≡ moves d
    unfolding moves first_forbidden
    row_hit l h =
        let here : is_forbidden e ≡ true = rw (← is) at (least_holds is_forbidden (events d) (rw is at l)) in
        sym (cells_hit (move_at d) (events d) s e _ rows passed (rw here) (states d) h l)

-- class 4 forbids no move
four_none : (ps : List Pair) (s t : ℕ) → forbids_some 4 ps s t ≡ false
unfolding forbids_some forbids
four_none [] s t = refl
four_none (p ∷ ps) s t = four_none ps s t

pub moves_four : (d : Drawing) → d.shape.class ≡ 4 → Ok tt ≡ moves d
unfolding moves
moves_four d c = sym ((cells_sound_iff (move_at d) (events d) (states d)).1 (λ s e hs he. rw (c, four_none d.pairs s (next d s e))))

-- 9
pub stopping_is : (d : Drawing) (q : ℕ) → stopping_joint d q
    ≡ not (meets (reached_within d.table (states d) (events d) q (states d - 1)) (those (meets_all d.pairs) 64))
unfolding stopping_joint reach_of good_of
stopping_is d q = refl

pub ruleset hope = (nat_tests, stopping_is, and_none, and_some)

-- what a check does not look at

module _ (h : Shape) (table : List ℕ) (ps : List Pair) where
  pub entries_body : entries (body h table ps) ≡ entries (body h table [])
  unfolding entries
  entries_body = refl

  pub members_body : members (body h table ps) ≡ members (body h [] ps)
  unfolding members
  members_body = refl

  pub excess_body : excess (body h table ps) ≡ excess (body h [] ps)
  unfolding excess exceeds
  excess_body = refl

-- the note plays no part in the conditions
pub conditions_note : (h : Shape) (note : List ℕ) (table : List ℕ) (ps : List Pair)
    → conditions (record { shape = h; note = note; table = table; pairs = ps }) ≡ conditions (record { shape = h; note = []; table = table; pairs = ps })
unfolding entries members excess exceeds moves stopped stopped_pairs stopped_joint stopping_joint good_of reach_of
conditions_note h note table ps = refl

-- a chain of checks
pub else_sound : (v w : Verdict) → v ≡ Ok tt → or_else v w ≡ w
else_sound v w e = rw e

pub else_refused : (v w : Verdict) (r : Refusal) → v ≡ Err r → or_else v w ≡ Err r
else_refused v w r e = rw e

pub ruleset chain = (else_sound, else_refused)
