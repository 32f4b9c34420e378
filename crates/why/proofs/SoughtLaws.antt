-- The rounds of `put`, and what is put.
-- Assumes nothing.
use mathlib.Core.Path.{◌≡◌, refl, sym, ◌∙◌}
use mathlib.Core.Bool.{Bool, true, false, not}
use mathlib.Core.List.{List, ◌++◌}
use Prim.Native.Nat.{ℕ, ◌+◌, ◌-◌, ◌^◌, ◌≤◌, ◌<◌}
use native.Mathlib.Omega.{arith}
use native.Mathlib.Numerals.{add-one}
use lib.ListN.{length, get_or, take, drop, replicate}
use lib.Seq.{length-take-le}
use borrow.Author.Tests.{not-true, not-false}
use Rattle.rule.specs.Putting.{PutPromise}
use Rattle.rule.specs.Sets.{has}
use Rattle.rule.specs.Reach.{target}
use Rattle.rule.specs.Ways.{nearer_below, within, distance, way_by, way_into}
use Rattle.rule.specs.declared.Refusal.TheVariants.{Room}
use Rattle.rule.proofs.BoolLaws.{clash}
use Rattle.rule.proofs.PutLaws.{keeps_no_room, keeps_done}
use Rattle.rule.proofs.SetLaws.{below_or}
use Rattle.rule.proofs.ShortestLaws.{FirstAt, near_first, way_into_length}
use Rattle.why.specs.Steps.{steps_below, steps_within, followed}
use Rattle.why.proofs.LoopLaws.{moved_in}
use Rattle.why.proofs.StepLaws.{steps_length, followed_way}
use Rattle.std.specs.Prelude.{Ok, Err}

pub way_lent : (out : List ℕ) (m : ℕ) → m ≤ length out → m ≡ length (take m out)
way_lent out m h = sym (length-take-le m out h)

module _ (table : List ℕ) (n k goal t : ℕ) where
  -- after so many rounds, none of which found t
  pub record Sought (steps : List ℕ) (near moves : ℕ) : Type 0 where
    pub near_is : near ≡ within (target table k) n k goal moves
    pub steps_are : steps ≡ steps_within (target table k) n k goal (replicate 64 0) moves
    pub long : length steps ≡ 64
    pub fits : near < 2 ^ 64
    pub missed : (j : ℕ) → j < moves → has (within (target table k) n k goal j) t ≡ false

  pub sought_none : goal < 2 ^ 64 → Sought (replicate 64 0) goal 0
  unfolding within steps_within
  sought_none h = record { near_is = refl; steps_are = refl; long = refl; fits = h; missed = λ j h. absurd (omega arith) }

  module _ {steps : List ℕ} {near moves : ℕ} (q : Sought steps near moves) where
    pub sought_more : (b : Bool) (steps' : List ℕ) (near' : ℕ) → b ≡ has near t → not b ≡ true → near' ≡ nearer_below (target table k) k near n → near' < 2 ^ 64
        → steps' ≡ steps_below (target table k) k near steps n → Sought steps' near' (moves + 1)
    unfolding within steps_within
    sought_more b steps' near' ib f i h s =
        record {
          near_is = rw (add-one, ← q.near_is) i;
          steps_are = rw (add-one, ← q.near_is, ← q.steps_are) s;
          long = rw s (steps_length (target table k) k near steps n ∙ q.long);
          fits = h;
          missed = λ j h. below_or j moves (λ l. q.missed j l) (λ l. let e : j ≡ moves = omega arith in rw (e, ← q.near_is, ← ib) (not-true b f));
        }

    pub low_steps : n ≤ 64 → ((i : ℕ) → get_or table i 0 < n) → (i : ℕ) → get_or table i 0 < length steps
    low_steps few low i = omega (arith, low i, q.long)

    module _ (b : Bool) (ib : b ≡ has near t) (reached : distance (target table k) n k goal t < n) where
      pub sought_fewer : not b ≡ true → moves < n
      sought_fewer f =
          let d = distance (target table k) n k goal t in
          below_or moves n (λ l. l) (λ l. clash first.0 (q.missed d (omega arith)))
        where
          first : FirstAt (target table k) n k goal (distance (target table k) n k goal t) t
          first = near_first (target table k) n k goal t reached

      pub sought_le : not b ≡ true → moves + 1 ≤ n
      sought_le f = omega (arith, sought_fewer f)

      pub sought_less : not b ≡ true → n - (moves + 1) < n - moves
      sought_less f = omega (arith, sought_fewer f)

      pub sought_is : not b ≡ false → moves ≡ distance (target table k) n k goal t
      sought_is f =
          let d = distance (target table k) n k goal t in
          below_or moves d
          (λ l. clash (rw (ib, q.near_is) at (not-false b f)) (first.1 moves l))
          (λ l. below_or d moves (λ m. clash first.0 (q.missed d m)) (λ m. omega arith))
        where
          first : FirstAt (target table k) n k goal (distance (target table k) n k goal t) t
          first = near_first (target table k) n k goal t reached

      module _ (f : not b ≡ false) (out : List ℕ) where
        pub way_no_room : length out < moves → PutPromise (Ok tt) (way_into (target table k) n k goal t) out (Err Room) out
        way_no_room h = keeps_no_room refl (rw (way_into_length (target table k) n k goal t, ← sought_is f) h)

        pub way_put : (w : List ℕ) → n ≤ 64 → t < n → ((i : ℕ) → get_or table i 0 < n) → moves ≤ length out
            → w ≡ followed (target table k) steps (length (take moves out)) t
            → PutPromise (Ok tt) (way_into (target table k) n k goal t) out (Ok moves) (w ++ drop moves out)
        unfolding way_into
        way_put w few h low room is =
            let d = distance (target table k) n k goal t in
            let r : w ≡ way_by (target table k) n k goal d t =
            is
            ∙ rw (length-take-le moves out room, q.steps_are, sought_is f)
            (followed_way (target table k) n k goal (λ s e hs he. moved_in table k n s e _ low refl) few (replicate 64 0) few d d t (omega arith) h
            (near_first (target table k) n k goal t reached)) in
            keeps_done refl (sought_is f ∙ sym (way_into_length (target table k) n k goal t)) room (rw r)
