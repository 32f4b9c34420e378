-- What the entries of a book hold, where the walk over them comes through: as many as there are, their rules one after another, and the same entries,
-- newest first, as the search sees them.
-- Assumes nothing.
use Prim.Native.Nat.{ℕ, zero, suc, ◌+◌, ◌-◌, ◌*◌}
use native.Mathlib.Omega.{arith}
use borrow.Author.Tests.{eqb-true}
use mathlib.Core.Path.{◌≡◌, refl, sym, ap, ◌∙◌}
use mathlib.Core.Bool.{true}
use mathlib.Core.List.{List, [], ◌∷◌, ◌++◌, append_assoc, append-nil}
use lib.ListN.{length, take, drop, length-append, length-drop}
use lib.Seq.{take-add, drop-drop, length-take-le}
use Rattle.book.specs.Book.{Filed, filed, rules_of, after_rules}
use Rattle.book.specs.Directory.{number_at, length_at, distance_at, count_in, directory_in, filled, well_formed, entries_from, entries_in}
use Rattle.book.specs.Finding.{Entry, newest_of, newest_first}
use Rattle.book.proofs.DirectoryLaws.{filled_says, filled_end, formed_says}

pub entries_long : (b : List ℕ) (n at start : ℕ) → length (entries_from b n at start) ≡ n
unfolding entries_from
entries_long b zero at start = refl
entries_long b (suc n) at start = ap suc (entries_long b n (at + 8) (start + length_at b at))

pub entries_count : (b : List ℕ) → length (entries_in b) ≡ count_in b
unfolding entries_in
entries_count b = entries_long b (count_in b) (directory_in b) 0

pub rules_append : (l m : List Filed) → rules_of (l ++ m) ≡ rules_of l ++ rules_of m
unfolding rules_of
rules_append [] m = refl
rules_append (x ∷ l) m = rw (rules_append l m, append_assoc)

pub rules_one : (x : Filed) → rules_of (x ∷ []) ≡ x.rule
unfolding rules_of
rules_one x = append-nil x.rule

module _ (b : List ℕ) (end after : ℕ) (whole : end + after ≡ length b) where
  pub rules_back : (n at start : ℕ) → filled b end n at start ≡ true → rules_of (entries_from b n at start) ≡ take (end - start) (drop start b)
  unfolding rules_of entries_from filled
  rules_back zero at start p = let e = eqb-true start end p in let z : end - start ≡ 0 = omega arith in rw z
  rules_back (suc n) at start p =
      let s = (filled_says b end n at start).0 p in
      let e = filled_end b end n (at + 8) (start + length_at b at) s.1.1 in
      let q : end - start ≡ length_at b at + (end - (start + length_at b at)) = omega arith in
      rw (q, take-add, drop-drop, rules_back n (at + 8) (start + length_at b at) s.1.1)

  -- the first of these entries: its rule is as long as it says, its distance is that from the end, and so it begins at `start`
  module _ (n at start : ℕ) (p : filled b end (suc n) at start ≡ true) where
    pub first_size : length (take (length_at b at) (drop start b)) ≡ length_at b at
    first_size =
        let e = filled_end b end n (at + 8) (start + length_at b at) ((filled_says b end n at start).0 p).1.1 in
        length-take-le (length_at b at) (drop start b) (rw length-drop (omega arith))

    pub first_distance : length (rules_of (entries_from b (suc n) at start)) + after ≡ distance_at b at
    first_distance =
        let d = ((filled_says b end n at start).0 p).1.0 in
        let e = filled_end b end (suc n) at start p in
        rw (rules_back (suc n) at start p, length-take-le (end - start) (drop start b) (rw length-drop (omega arith))) (omega arith)

    pub first_begins : length b - distance_at b at ≡ start
    first_begins = let d = ((filled_says b end n at start).0 p).1.0 in omega arith

-- the entries of a list of which the first rule begins at `start`, newest first, before others
abbrev pub entry_for : Filed → ℕ → Entry
entry_for x start = record { number = x.number; start = start; size = length x.rule }

unfoldable pub onto : ℕ → List Filed → List Entry → List Entry
onto start [] others = others
onto start (x ∷ l) others = onto (start + length x.rule) l (entry_for x start ∷ others)

pub onto_last : (start : ℕ) (l : List Filed) (x : Filed) (others : List Entry)
    → onto start (l ++ (x ∷ [])) others ≡ entry_for x (start + length (rules_of l)) ∷ onto start l others
unfolding onto rules_of
onto_last start [] x others = let z : start + 0 ≡ start = omega arith in rw z
onto_last start (y ∷ l) x others =
    let q : start + length (y.rule ++ rules_of l) ≡ start + length y.rule + length (rules_of l) = rw length-append (omega arith) in
    rw q (onto_last (start + length y.rule) l x (entry_for y start ∷ others))

newest_onto : (b : List ℕ) (end after : ℕ) → end + after ≡ length b → (d n k at start : ℕ) → at ≡ d + 8 * k → filled b end n at start ≡ true
    → onto start (entries_from b n at start) (newest_of b d k) ≡ newest_of b d (k + n)
unfolding onto entries_from newest_of
newest_onto b end after whole d zero k at start q p = let z : k + 0 ≡ k = omega arith in rw z
newest_onto b end after whole d (suc n) k at start q p =
    let size = first_size b end after whole n at start p in
    let rest = entries_from b n (at + 8) (start + length_at b at) in
    let x = filed (number_at b at) (take (length_at b at) (drop start b)) in
    let here : entry_for x start ∷ newest_of b d k ≡ newest_of b d (suc k) = rw (← q, size, first_begins b end after whole n at start p) in
    let s : suc k + n ≡ k + suc n = omega arith in
    ap (λ (j : ℕ). onto (start + j) rest (entry_for x start ∷ newest_of b d k)) size
    ∙ ap (λ (l : List Entry). onto (start + length_at b at) rest l) here
    ∙ newest_onto b end after whole d n (suc k) (at + 8) (start + length_at b at) (omega arith) ((filled_says b end n at start).0 p).1.1
    ∙ ap (newest_of b d) s

-- of a book that is well formed
module _ (b : List ℕ) (w : well_formed b ≡ true) where
  pub book_whole : directory_in b + after_rules (count_in b) ≡ length b
  book_whole = let f = ((formed_says b).0 w).fits in omega arith

  pub rules_are : rules_of (entries_in b) ≡ take (directory_in b) b
  unfolding entries_in
  rules_are =
      let z : directory_in b - 0 ≡ directory_in b = omega arith in
      rules_back b (directory_in b) (after_rules (count_in b)) book_whole (count_in b) (directory_in b) 0 ((formed_says b).0 w).full ∙ rw z

  pub rules_long : length (rules_of (entries_in b)) ≡ directory_in b
  rules_long = let h = book_whole in rw rules_are (length-take-le (directory_in b) b (omega arith))

  pub newest_are : newest_first b ≡ onto 0 (entries_in b) []
  unfolding newest_first entries_in newest_of
  newest_are =
      let z : directory_in b ≡ directory_in b + 8 * 0 = omega arith in
      let c : 0 + count_in b ≡ count_in b = omega arith in
      sym (newest_onto b (directory_in b) (after_rules (count_in b)) book_whole (directory_in b) (count_in b) 0 (directory_in b) 0 z ((formed_says b).0 w).full
      ∙ rw c)
