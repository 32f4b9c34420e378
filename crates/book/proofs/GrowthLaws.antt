-- What adding a rule file writes, part by part.
-- Assumes nothing.
use Prim.Native.Nat.{ℕ, ◌+◌, ◌-◌, ◌*◌, ◌≤◌, ◌<◌}
use native.Mathlib.Omega.{arith}
use native.Mathlib.Numerals.{add-one}
use borrow.Rule.Slice.PartMut.{put_mid}
use mathlib.Core.Path.{◌≡◌, refl, ◌∙◌}
use mathlib.Core.List.{List, [], ◌++◌}
use lib.ListN.{length, get_or, take, drop, length-append}
use lib.Seq.{length-take-le}
use Rattle.octets.specs.Numbers.{digits}
use Rattle.octets.specs.Copies.{copied}
use Rattle.octets.proofs.CopyLaws.{copied_full}
use Rattle.octets.proofs.ListLaws.{part_more}
use Rattle.rulefile.specs.Layout.{flat_up_to}
use Rattle.rulefile.proofs.ListLaws.{length_flat_up_to}
use Rattle.book.specs.Book.{entry_of, after_rules}
use Rattle.book.specs.Directory.{AreEntries, length_at, distance_at, count_in, directory_in}
use Rattle.book.specs.Adding.{moved_at, moved_of, last_of, grown_directory, grown}
use Rattle.book.proofs.ChunkLaws.{number_read, length_read, distance_read}
use Rattle.book.proofs.BookLaws.{length_entry}

-- the loop over the old entries

module _ (b : List ℕ) (d grow : ℕ) where
  pub length_moved : (n : ℕ) → length (moved_of b d grow n) ≡ 8 * n
  length_moved n = length_flat_up_to 8 (moved_at b d grow) n
      (λ i. length_entry (get_or b (d + 8 * i) 0) (length_at b (d + 8 * i)) (distance_at b (d + 8 * i) + grow))

  pub moved_more : (entries : List (List ℕ)) → AreEntries b d entries → (out out₀ last : List ℕ) (i : ℕ) → i < length entries
      → out ≡ moved_of b d grow i ++ drop (8 * i) out₀ → {s x : ℕ} → s ≡ length_at (get_or entries i []) 0 → x ≡ distance_at (get_or entries i []) 0
      → last ≡ entry_of (get_or (get_or entries i []) 0 0) s (x + grow)
      → put_mid (8 * i) (8 * i + 8 - 8 * i) out last ≡ moved_of b d grow (i + 1) ++ drop (8 * (i + 1)) out₀
  unfolding flat_up_to
  moved_more entries are out out₀ last i h o q r f =
      let e = are.each i h in
      let k : 8 * i + 8 - 8 * i ≡ 8 = omega arith in
      let n : 8 * (i + 1) ≡ 8 * i + 8 = omega arith in
      let here : last ≡ moved_at b d grow i =
      f ∙ rw (q, r, number_read b (d + 8 * i) _ e, length_read b (d + 8 * i) _ e, distance_read b (d + 8 * i) _ e) in
      rw (k, n, add-one, o, here) (part_more (moved_of b d grow i) (moved_at b d grow i) out₀ (8 * i) 8 (length_moved i)
      (length_entry (get_or b (d + 8 * i) 0) (length_at b (d + 8 * i)) (distance_at b (d + 8 * i) + grow)))

-- the whole book

-- the old rules and the new one are copied into parts of just their lengths
pub grown_put : (b f : List ℕ) (number : ℕ) {d c : ℕ} (front file : List ℕ) {first second third : List ℕ} → d + (8 * c + 2) ≡ length b → c ≡ count_in b
    → first ≡ copied (take d b) front → length front ≡ d → second ≡ copied f file → length file ≡ length f
    → third ≡ grown_directory b c number (length f) → first ++ (second ++ third) ≡ grown b number f
unfolding grown
grown_put b f number {d} {c} front file ends counted one front_long two file_long three =
    let at : d ≡ directory_in b = omega (arith, ends, counted) in
    let first_is = one ∙ copied_full (take d b) front (omega (arith, length-take-le d b (omega (arith, ends)))) in
    let second_is = two ∙ copied_full f file (omega arith) in
    rw (first_is, second_is, three, counted, at) refl

pub length_last : (n s c : ℕ) → length (last_of n s c) ≡ 10
unfolding digits last_of
length_last n s c = refl

pub length_grown : (b : List ℕ) (number : ℕ) (f : List ℕ) → after_rules (count_in b) ≤ length b → length (grown b number f) ≡ length b + (length f + 8)
unfolding grown
length_grown b number f fits =
    let c = count_in b in
    let d = directory_in b in
    let moved = moved_of b d (length f + 8) c in
    let last = last_of number (length f) (c + 1) in
    length-append (take d b) (f ++ (moved ++ last))
    ∙ rw (
      length-take-le d b (omega arith),
      length-append f (moved ++ last),
      length-append moved last,
      length_moved b d (length f + 8) c,
      length_last number (length f) (c + 1),
    ) (omega arith)
