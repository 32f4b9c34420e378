-- What the calls of src/grounds.rt come to.
-- Assumes nothing.
use mathlib.Core.Path.{◌≡◌, refl, sym, ap, ◌∙◌}
use mathlib.Core.List.{List, []}
use Prim.Native.Nat.{ℕ, ◌-◌, ◌≤◌, ◌<◌}
use native.Mathlib.Omega.{arith}
use lib.Bits.{bit_or}
use lib.ListN.{length, get_or, take}
use lib.Seq.{take_all}
use borrow.Author.Tests.{eq-eqb, ne_eqb}
use Rattle.rule.specs.Sets.{those}
use Rattle.rule.specs.Drawing.{Drawing, body, no_pair}
use Rattle.rule.specs.Acceptance.{meets_all, good_of}
use Rattle.rule.specs.Operations.{value_of, smallest_of, reach_of, operation_pairs, operation_joint, operation_at}
use Rattle.rule.specs.Putting.{PutPromise}
use Rattle.rule.specs.Reach.{target, reached_within}
use Rattle.rule.specs.Ways.{distance, way_into}
use Rattle.rule.specs.WellDrawn.{WellDrawn}
use Rattle.rule.specs.declared.Pair.{Pair}
use Rattle.rule.specs.declared.Shape.{Shape}
use Rattle.rule.specs.declared.Operation.{Operation}
use Rattle.rule.specs.declared.Operation.TheVariants.{Halt, Store, Dump}
use Rattle.rule.specs.declared.Refusal.{Refusal}
use Rattle.rule.proofs.PutLaws.{keeps_done}
use Rattle.rule.proofs.SetLaws.{has_none, those_at}
use Rattle.why.specs.Grounds.{lost_among, unmet_among, wanted_pair, goal_set, way_for, way_told}
use Rattle.why.specs.Steps.{operation_by}
use Rattle.why.specs.Why.{GroundPromise}
use Rattle.why.specs.declared.Ground.TheVariants.{Halted, Held, Released}
use Rattle.why.proofs.GroundLaws.{some_unmet, way_near}
use Rattle.rule.specs.Verdict.{Written}
use Rattle.std.specs.Prelude.{Ok, Err}

-- nothing is put
put_nothing : {bytes out : List ℕ} → bytes ≡ [] → PutPromise (Ok tt) bytes out (Ok 0) out
put_nothing q = rw q (keeps_done refl refl (omega arith) refl)

-- the operation, by the mode
module _ (h : Shape) (ps : List Pair) (x t : ℕ) {o : Operation} where
  pub by_all : h.mode ≡ 1 → {good : ℕ} → good ≡ those (meets_all ps) 64 → o ≡ value_of (record { r = good; p = 0 }) x t → o ≡ operation_by h ps x t
  unfolding operation_by
  by_all j is io = rw (eq-eqb h.mode 1 j, ← is) io

  pub by_pairs : (h.mode ≡ 1 → ⊥) → o ≡ smallest_of ps x t → o ≡ operation_by h ps x t
  unfolding operation_by
  by_pairs n io = rw (ne_eqb h.mode 1 n) io

module _ (h : Shape) (table : List ℕ) (ps : List Pair) (all : length ps ≡ h.pairs) (t : ℕ) where
  abbrev D : Drawing
  D = body h table ps

  used : take h.pairs ps ≡ ps
  used = take_all h.pairs ps (omega arith)

  -- what is waited for, by the mode
  pub wanted_all : h.mode ≡ 1 → h.pairs ≡ wanted_pair D t
  unfolding wanted_pair
  wanted_all j = rw (eq-eqb h.mode 1 j)

  pub wanted_unmet : (h.mode ≡ 1 → ⊥) → {i : ℕ} → i ≡ unmet_among ps h.pairs t → i ≡ wanted_pair D t
  unfolding wanted_pair
  wanted_unmet n is = rw (ne_eqb h.mode 1 n, used) is

  -- and where it is met
  module _ (i : ℕ) where
    pub goal_together : h.mode ≡ 1 → {x : ℕ} → x ≡ those (meets_all ps) 64 → x ≡ goal_set D i
    unfolding goal_set good_of
    goal_together j is = rw (eq-eqb h.mode 1 j, used) is

    pub goal_alone : (h.mode ≡ 1 → ⊥) → bit_or (get_or ps i no_pair).r (get_or ps i no_pair).p ≡ goal_set D i
    unfolding goal_set
    goal_alone n = rw (ne_eqb h.mode 1 n, used)

  module _ (well : WellDrawn D) (b : t < h.states) (o : operation_at D t ≡ Store) (i : ℕ) (is : i ≡ wanted_pair D t) where
    pub wanted_used : (h.mode ≡ 1 → ⊥) → i < h.pairs
    unfolding wanted_pair
    wanted_used n =
        let e : wanted_pair D t ≡ unmet_among (take h.pairs ps) h.pairs t = rw (ne_eqb h.mode 1 n) in
        rw (is, e) (some_unmet D well t b o)

    module _ (x : ℕ) (met : x ≡ goal_set D i) where
      goal_here : x ≡ goal_set D (wanted_pair D t)
      goal_here = met ∙ ap (λ (j : ℕ). goal_set D j) is

      pub put_near : distance (target table h.events) h.states h.events x t < h.states
      put_near = rw goal_here (way_near D well t b o)

      module _ (out : List ℕ) (w : Written) (out' : List ℕ)
          (put : PutPromise (Ok tt) (way_into (target table h.events) h.states h.events x t) out w out') where
        told : PutPromise (Ok tt) (way_told D t) out w out'
        unfolding way_for way_told
        told = rw o (rw goal_here at put)

        pub held_done : (n : ℕ) → w ≡ Ok n → GroundPromise (Ok tt) D t out (Ok (Held i n)) out'
        held_done n q = record { written = w; put = told; answer = rw (q, o, ← is) }

        pub held_refused : (r : Refusal) → w ≡ Err r → GroundPromise (Ok tt) D t out (Err r) out'
        held_refused r q = record { written = w; put = told; answer = rw q }

  -- the operation that was found is that of the drawing
  module _ (x : ℕ) (o : Operation) (b : t < h.states) (few : h.states ≤ 64) (ix : x ≡ reached_within table h.states h.events t (h.states - 1))
      (io : o ≡ operation_by h ps x t) where
    operation_is : o ≡ operation_at D t
    unfolding operation_at operation_joint operation_pairs operation_by value_of reach_of good_of
    operation_is = io ∙ rw (ix, used, has_none t, those_at (meets_all ps) 64 t (omega arith) (omega arith))

    pub judged_store : o ≡ Store → operation_at D t ≡ Store
    judged_store q = sym operation_is ∙ q

    pub judged_halt : (out : List ℕ) (i : ℕ) → o ≡ Halt → i ≡ lost_among ps h.pairs x t → GroundPromise (Ok tt) D t out (Ok (Halted i)) out
    unfolding reach_of way_told
    judged_halt out i q is =
        let e : operation_at D t ≡ Halt = sym operation_is ∙ q in
        record { written = Ok 0; put = put_nothing (rw e); answer = rw (e, is, ix, used) }

    pub judged_dump : (out : List ℕ) → o ≡ Dump → GroundPromise (Ok tt) D t out (Ok Released) out
    unfolding way_told
    judged_dump out q =
        let e : operation_at D t ≡ Dump = sym operation_is ∙ q in
        record { written = Ok 0; put = put_nothing (rw e); answer = rw e }
