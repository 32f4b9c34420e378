-- What a file, a shape or a trailer has that passed a check: each condition 1 to 4 in plain words.
-- Assumes nothing.
use mathlib.Core.Path.{◌≡◌}
use mathlib.Core.List.{List}
use mathlib.Core.Bool.{Bool, not}
use mathlib.Core.Logic.{◌↔◌}
use Prim.Native.Nat.{ℕ, ◌-◌, ◌*◌, ◌≤◌}
use native.Mathlib.Nat.{mul-le-mul}
use borrow.Author.Tests.{not-false}
use lib.ListN.{length, get_or}
use Rattle.rule.specs.Refusals.{refuse_if, first_of}
use Rattle.rule.specs.Range.{rule_limits, Classed, Ranged}
use Rattle.rule.proofs.RangeLaws.{range_says}
use Rattle.rule.proofs.BoolLaws.{Says, and_says, or_says, eq_says, le_says, in_words}
use Rattle.rule.proofs.RefusalLaws.{refuse_sound, first_sound}
use Rattle.rule.specs.declared.Shape.{Shape}
use Rattle.rule.specs.declared.Refusal.{Refusal}
use Rattle.rule.specs.declared.Refusal.TheVariants.{Class, Range, Distance}
use Rattle.trailer.specs.Layout.{pairs_back, table_back}
use Rattle.trailer.specs.Conditions.{framed, classed, ranged, placed, head_conditions}
use Rattle.trailer.specs.declared.Trailer.{Trailer}
use Rattle.std.specs.Prelude.{Ok}

-- a condition that is refused where its test fails
pub passed : (r : Refusal) {b : Bool} {A : Type 0} → Says b A → (refuse_if (not b) r ≡ Ok tt) ↔ A
passed r {b} {A} s = (
  λ e. s.0 (not-false b ((refuse_sound (not b) r).0 e)),
  λ x. rw (s.1 x),
)

-- 1: the length and the two marks
pub record Framed (f : List ℕ) : Type 0 where
  pub long : 12 ≤ length f
  pub short : length f ≤ 3212
  pub first_mark : get_or f (length f - 2) 0 ≡ 72
  pub last_mark : get_or f (length f - 1) 0 ≡ 82

pub framed_says : (f : List ℕ) → Says (framed f) (Framed f)
unfolding framed
framed_says f =
    in_words (and_says (le_says _ _) (and_says (le_says _ _) (and_says (eq_says _ _) (eq_says _ _))))
    (λ p. record { long = p.0; short = p.1.0; first_mark = p.1.1.0; last_mark = p.1.1.1 })
    (λ p. (p.long, (p.short, (p.first_mark, p.last_mark))))

-- 2: class 1 to 4
pub classed_says : (s : Shape) → Says (classed s) (Classed s)
unfolding classed
classed_says s =
    in_words (and_says (le_says _ _) (le_says _ _)) (λ p. record { low = p.0; high = p.1 }) (λ p. (p.low, p.high))

-- 3: N, K and m in range, the initial state below N, byte 5 zero or one, and m 1 but in class 3
pub ranged_says : (s : Shape) → Says (ranged s) (Ranged s)
unfolding ranged
ranged_says s =
    in_words
    (and_says (range_says rule_limits s.states s.events s.initial.0)
    (and_says (and_says (le_says _ _) (le_says _ _)) (and_says (le_says _ _) (or_says (eq_says _ _) (eq_says _ _)))))
    (λ p. record { numbers = p.0; some_pairs = p.1.0.0; few_pairs = p.1.0.1; mode_in = p.1.1.0; one_pair = p.1.1.1 })
    (λ r. (r.numbers, ((r.some_pairs, r.few_pairs), (r.mode_in, r.one_pair))))

-- 4: the distances are right, the file is as long as they say, and the note is not over 1,024
pub record Placed (t : Trailer) (size : ℕ) : Type 0 where
  pub pairs_is : t.pairsback ≡ pairs_back t.shape
  pub table_is : t.tableback ≡ table_back t.shape
  pub within : table_back t.shape ≤ size
  pub note_in : size - table_back t.shape ≤ 1024

pub placed_says : (t : Trailer) (size : ℕ) → Says (placed t size) (Placed t size)
unfolding placed
placed_says t size =
    in_words (and_says (eq_says _ _) (and_says (eq_says _ _) (and_says (le_says _ _) (le_says _ _))))
    (λ p. record { pairs_is = p.0; table_is = p.1.0; within = p.1.1.0; note_in = p.1.1.1 })
    (λ p. (p.pairs_is, (p.table_is, (p.within, p.note_in))))

-- 2 to 4 of a file
pub record Headed (t : Trailer) (size : ℕ) : Type 0 where
  pub classed : Classed t.shape
  pub ranged : Ranged t.shape
  pub placed : Placed t size

pub headed_sound : (t : Trailer) (size : ℕ) → first_of (head_conditions t size) ≡ Ok tt → Headed t size
headed_sound t size e =
    let a = (first_sound _ _).0 e in
    let b = (first_sound _ _).0 a.1 in
    let c = (first_sound _ _).0 b.1 in
    record {
      classed = (passed Class (classed_says t.shape)).0 a.0;
      ranged = (passed Range (ranged_says t.shape)).0 b.0;
      placed = (passed Distance (placed_says t size)).0 c.0;
    }

-- the cells of a shape in range stand in a table of 2,048
pub cells_in : {s : Shape} → Ranged s → s.states * s.events ≤ 2048
cells_in r = mul-le-mul r.numbers.few_states r.numbers.few_events
