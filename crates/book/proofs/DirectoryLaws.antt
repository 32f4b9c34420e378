-- Laws of a directory: what its entries say, the walk over them, and what a book that is well formed has.
-- Assumes nothing.
use Prim.Native.Nat.{ℕ, zero, suc, ◌+◌, ◌-◌, ◌*◌, ◌^◌, ◌≤◌, ◌<◌}
use native.Mathlib.Omega.{arith}
use native.Mathlib.Nat.{le_of_suc-le-suc}
use borrow.Author.Tests.{le-leb}
use mathlib.Core.Path.{◌≡◌}
use mathlib.Core.Bool.{true, ◌&&◌}
use mathlib.Core.List.{List, []}
use lib.ListN.{length, get_or, take, drop, length-drop}
use lib.Seq.{length-take-le, take_all}
use lib.Dec.{eqb}
use Rattle.octets.specs.Numbers.{Bytes, value_of}
use Rattle.octets.proofs.ListLaws.{tail_part}
use Rattle.octets.proofs.NumberLaws.{value_of_part, value_of_lt, bytes_take, bytes_drop}
use Rattle.rule.proofs.BoolLaws.{Says, and_says, eq_says, le_says, itself, in_words}
use Rattle.book.specs.Book.{after_rules}
use Rattle.book.proofs.ChunkLaws.{spare_read, length_read, distance_read}
use Rattle.book.specs.Directory.{AreEntries, spare_at, length_at, distance_at, count_in, directory_in, filled, well_formed}

-- what the bytes say

pub part_is : (b : List ℕ) → Bytes b → (at width : ℕ) → at + width ≤ length b → width ≤ 8 → {x : ℕ}
    → x ≡ value_of (take 8 (take (at + width - at) (drop at b))) → (x ≡ value_of (take width (drop at b))) × (x < 256 ^ width)
part_is b bytes at width h w is =
    let k : at + width - at ≡ width = omega arith in
    let n : length (take width (drop at b)) ≡ width = length-take-le width (drop at b) (rw length-drop (omega arith)) in
    let v = rw (k, value_of_part width (drop at b) w) at is in
    (v, rw v (rw n at (value_of_lt (take width (drop at b)) (bytes_take width (drop at b) (bytes_drop at b bytes)))))

pub count_is : (b : List ℕ) (end : ℕ) → end + 2 ≡ length b → value_of (take 8 (take (length b - end) (drop end b))) ≡ count_in b
unfolding count_in
count_is b end h =
    let e : length b - 2 ≡ end = omega arith in
    rw (tail_part end b, e, take_all 8 (drop end b) (rw length-drop (omega arith)))

-- the walk over the entries

module _ (b : List ℕ) (start : ℕ) (entries : List (List ℕ)) (are : AreEntries b start entries) where
  pub filled_step : (at i : ℕ) → i < length entries
      → filled b start (length entries - i) (start + 8 * i) at
      ≡ (eqb (get_or (get_or entries i []) 1 0) 0 && (eqb (distance_at (get_or entries i []) 0 + at) (length b)
      && filled b start (length entries - (i + 1)) (start + 8 * (i + 1)) (at + length_at (get_or entries i []) 0)))
  unfolding filled
  filled_step at i h =
      let e = are.each i h in
      let p : length entries - i ≡ suc (length entries - (i + 1)) = omega arith in
      let q : start + 8 * (i + 1) ≡ start + 8 * i + 8 = omega arith in
      rw (p, q, spare_read b (start + 8 * i) _ e, distance_read b (start + 8 * i) _ e, length_read b (start + 8 * i) _ e)

  pub filled_last : (at i : ℕ) → length entries ≤ i → filled b start (length entries - i) (start + 8 * i) at ≡ eqb at start
  unfolding filled
  filled_last at i h = let q : length entries - i ≡ 0 = omega arith in rw q

-- what a walk that comes through says

pub filled_says : (b : List ℕ) (end n at start : ℕ)
    → Says (filled b end (suc n) at start)
    ((spare_at b at ≡ 0) × ((distance_at b at + start ≡ length b) × (filled b end n (at + 8) (start + length_at b at) ≡ true)))
unfolding filled
filled_says b end n at start =
    and_says (eq_says (spare_at b at) 0) (and_says (eq_says (distance_at b at + start) (length b)) (itself _))

pub filled_end : (b : List ℕ) (end n at start : ℕ) → filled b end n at start ≡ true → start ≤ end
unfolding filled
filled_end b end zero at start p = let e = (eq_says start end).0 p in omega arith
filled_end b end (suc n) at start p =
    let q = filled_end b end n (at + 8) (start + length_at b at) ((filled_says b end n at start).0 p).1.1 in
    omega arith

-- the rule of the entry at a place begins in the book and ends before the directory
pub record Placed (b : List ℕ) (end at : ℕ) : Type 0 where
  pub begins : distance_at b at ≤ length b
  pub ends : length b - distance_at b at + length_at b at ≤ end

pub filled_placed : (b : List ℕ) (end n at start : ℕ) → filled b end n at start ≡ true → (i : ℕ) → i < n → Placed b end (at + 8 * i)
filled_placed b end zero at start p i h = absurd (omega arith)
filled_placed b end (suc n) at start p zero h =
    let s = (filled_says b end n at start).0 p in
    let d = s.1.0 in
    let e = filled_end b end n (at + 8) (start + length_at b at) s.1.1 in
    let q : at + 8 * 0 ≡ at = omega arith in
    rw q (record { begins = omega arith; ends = omega arith })
filled_placed b end (suc n) at start p (suc i) h =
    let s = (filled_says b end n at start).0 p in
    let q : at + 8 * suc i ≡ at + 8 + 8 * i = omega arith in
    rw q (filled_placed b end n (at + 8) (start + length_at b at) s.1.1 i (le_of_suc-le-suc h))

-- a well formed book
pub record Formed (b : List ℕ) : Type 0 where
  pub long : 2 ≤ length b
  pub few : count_in b ≤ 1024
  pub fits : after_rules (count_in b) ≤ length b
  pub full : filled b (directory_in b) (count_in b) (directory_in b) 0 ≡ true

pub formed_says : (b : List ℕ) → Says (well_formed b) (Formed b)
unfolding well_formed
formed_says b =
    in_words (and_says (le_says 2 (length b)) (and_says (le_says (count_in b) 1024) (and_says (le_says (after_rules (count_in b)) (length b)) (itself _))))
    (λ p. record { long = p.0; few = p.1.0; fits = p.1.1.0; full = p.1.1.1 })
    (λ f. (f.long, (f.few, (f.fits, f.full))))

pub formed_as : (b : List ℕ) (count start : ℕ) → count ≡ count_in b → count ≤ 1024 → start + (8 * count + 2) ≡ length b
    → well_formed b ≡ filled b start count start 0
unfolding well_formed
formed_as b count start is few ends =
    let e : length b - (8 * count + 2) ≡ start = omega arith in
    rw (le-leb 2 (length b) (omega arith), ← is, le-leb count 1024 few, le-leb (8 * count + 2) (length b) (omega arith), e)

module _ (b : List ℕ) (w : well_formed b ≡ true) where
  formed : Formed b
  formed = (formed_says b).0 w

  pub placed : (i : ℕ) → i < count_in b → Placed b (directory_in b) (directory_in b + 8 * i)
  placed = filled_placed b (directory_in b) (count_in b) (directory_in b) 0 formed.full
