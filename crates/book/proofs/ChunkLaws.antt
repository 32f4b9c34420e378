-- The entries of a directory as arrays of eight bytes: where they stand in the book, and what they say.
-- Assumes nothing.
use Prim.Native.Nat.{ℕ, zero, suc, ◌+◌, ◌-◌, ◌*◌, ◌/◌, ◌<◌}
use native.Mathlib.Omega.{arith}
use native.Mathlib.Nat.{le_of_suc-le-suc}
use mathlib.Core.Path.{◌≡◌, refl, sym, ap, ◌∙◌}
use mathlib.Core.List.{List, []}
use lib.ListN.{length, get_or, take, drop, length-drop}
use lib.Seq.{take-take, drop-drop}
use Rattle.std.proofs.lemmas.List.{get_or-take, get_or-drop, drop-take, take_rest}
use Rattle.std.specs.Simd.{first_chunks}
use Rattle.octets.specs.Numbers.{value_of}
use Rattle.book.specs.Directory.{number_at, spare_at, length_at, distance_at, AreEntries}

chunk_at : (k : ℕ) (xs : List ℕ) (i : ℕ) → i < k → get_or (first_chunks 8 k xs) i [] ≡ take 8 (drop (8 * i) xs)
chunk_at zero xs i h = absurd (omega arith)
chunk_at (suc k) xs zero h = refl
chunk_at (suc k) xs (suc i) h =
    let q : 8 * suc i ≡ 8 + 8 * i = omega arith in
    chunk_at k (drop 8 xs) i (le_of_suc-le-suc h) ∙ ap (take 8) (drop-drop (8 * i) 8 xs ∙ ap (λ (n : ℕ). drop n xs) (sym q))

length_chunks : (k : ℕ) (xs : List ℕ) → length (first_chunks 8 k xs) ≡ k
length_chunks zero xs = refl
length_chunks (suc k) xs = ap suc (length_chunks k (drop 8 xs))

-- the chunks from a place on, after which two bytes are left, are the entries from there on
module _ (b : List ℕ) (start count : ℕ) (ends : start + (8 * count + 2) ≡ length b) {entries : List (List ℕ)}
    (is : entries ≡ first_chunks 8 (length (take (length b - start) (drop start b)) / 8) (take (length b - start) (drop start b))) where
  chunks : entries ≡ first_chunks 8 count (drop start b)
  chunks =
      let n : length (drop start b) / 8 ≡ count = rw length-drop (omega arith) in
      is ∙ rw (take_rest b start, n)

  pub chunk_count : length entries ≡ count
  chunk_count = ap length chunks ∙ length_chunks count (drop start b)

  pub chunks_are : AreEntries b start entries
  chunks_are =
      record {
        each = λ i h. rw chunks (chunk_at count (drop start b) i (rw chunk_count at h) ∙ ap (take 8) (drop-drop (8 * i) start b));
      }

-- what an array of eight bytes says is what stands at its place
module _ (b : List ℕ) (at : ℕ) (e : List ℕ) (is : e ≡ take 8 (drop at b)) where
  pub number_read : get_or e 0 0 ≡ number_at b at
  number_read = let z : at + 0 ≡ at = omega arith in rw is (get_or-take 8 (drop at b) 0 0 (omega arith) ∙ get_or-drop at b 0 0 ∙ rw z)

  pub spare_read : get_or e 1 0 ≡ spare_at b at
  spare_read = rw is (get_or-take 8 (drop at b) 1 0 (omega arith) ∙ get_or-drop at b 1 0)

  pub length_read : length_at e 0 ≡ length_at b at
  unfolding length_at
  length_read =
      ap (λ (l : List ℕ). value_of (take 2 (drop 2 l))) is
      ∙ ap value_of (ap (take 2) (drop-take 2 6 (drop at b)) ∙ take-take 2 6 (drop 2 (drop at b)) (omega arith) ∙ ap (take 2) (drop-drop 2 at b))

  pub distance_read : distance_at e 0 ≡ distance_at b at
  unfolding distance_at
  distance_read =
      ap (λ (l : List ℕ). value_of (take 4 (drop 4 l))) is
      ∙ ap value_of (ap (take 4) (drop-take 4 4 (drop at b)) ∙ take-take 4 4 (drop 4 (drop at b)) (omega arith) ∙ ap (take 4) (drop-drop 4 at b))
