-- Bytes are a well formed book exactly when they are the book of a list, and of one list only.
-- Assumes nothing.
use Prim.Native.Nat.{ℕ, zero, suc, ◌+◌, ◌-◌, ◌*◌, ◌≤◌, ◌<◌}
use native.Mathlib.Omega.{arith}
use borrow.Author.Tests.{eq-eqb}
use native.Mathlib.Nat.{lt_of_lt_of_le, pow-le-pow_right}
use native.Mathlib.Numerals.{add-one}
use mathlib.Core.Path.{◌≡◌, refl, sym, ap, ◌∙◌}
use mathlib.Core.Bool.{true}
use mathlib.Core.List.{List, [], ◌∷◌, ◌++◌, append_assoc}
use mathlib.Core.Logic.{◌↔◌}
use lib.Dec.{lit<}
use lib.ListN.{length, take, drop, length-append, length-take, length-drop, take-append-drop}
use lib.Seq.{get_or-append-add, drop-append-add, drop-cons, take_at, drop_at, take-add, drop-drop}
use Rattle.octets.specs.Numbers.{Bytes, value_of, digits}
use Rattle.octets.proofs.NumberLaws.{value_of_digits, digits_value_of, part_back, value_of_lt, bytes_take, bytes_drop, length_digits}
use Rattle.book.specs.Book.{Filed, rules_of, entry_of, directory_of, after_rules, book_of, Keepable, AllKeepable, IsBookOf}
use Rattle.book.specs.Directory.{number_at, spare_at, length_at, distance_at, count_in, directory_in, filled, well_formed, entries_from, entries_in}
use Rattle.book.proofs.DirectoryLaws.{filled_says, formed_says}
use Rattle.book.proofs.EntriesLaws.{entries_long, entries_count, rules_back, first_size, first_distance}

-- what an entry that was written says

record Reads (b : List ℕ) (at number size distance : ℕ) : Type 0 where
  number_is : number_at b at ≡ number
  spare_is : spare_at b at ≡ 0
  length_is : length_at b at ≡ size
  distance_is : distance_at b at ≡ distance

entry_read : (pre post : List ℕ) (n s d : ℕ) → s < 65536 → d < 4294967296 → Reads (pre ++ (entry_of n s d ++ post)) (length pre) n s d
unfolding digits length_at distance_at
entry_read pre post n s d hs hd =
    let e = entry_of n s d ++ post in
    let z : length pre + 0 ≡ length pre = omega arith in
    record {
      number_is = rw (← z) (get_or-append-add pre e 0 0);
      spare_is = get_or-append-add pre e 1 0;
      length_is = rw (drop-append-add pre e 2) (value_of_digits 2 s hs);
      distance_is = rw (drop-append-add pre e 4) (value_of_digits 4 d hd);
    }

pub length_entry : (n s d : ℕ) → length (entry_of n s d) ≡ 8
unfolding digits
length_entry n s d = refl

pub length_directory : (after : ℕ) (l : List Filed) → length (directory_of after l) ≡ 8 * length l
unfolding directory_of
length_directory after [] = refl
length_directory after (x ∷ l) =
    let e = entry_of x.number (length x.rule) (length (rules_of (x ∷ l)) + after) in
    length-append e (directory_of after l)
    ∙ rw (length_entry x.number (length x.rule) (length (rules_of (x ∷ l)) + after), length_directory after l) (omega arith)

pub length_book : (l : List Filed) → length (book_of l) ≡ length (rules_of l) + after_rules (length l)
unfolding book_of
length_book l =
    rw (length-append (rules_of l), length-append (directory_of (after_rules (length l)) l), length_directory, length_digits)

-- the last rules of a book, of which the entries begin at length pre, and the rules at length front
module _ (b : List ℕ) (end after : ℕ) (whole : end + after ≡ length b) (fits : length b < 4294967296) where
  record Tail (l : List Filed) (at start : ℕ) : Type 0 where
    pre : List ℕ
    post : List ℕ
    front : List ℕ
    rest : List ℕ
    entries : b ≡ pre ++ (directory_of after l ++ post)
    rules : b ≡ front ++ (rules_of l ++ rest)
    at_is : length pre ≡ at
    start_is : length front ≡ start
    ends : start + length (rules_of l) ≡ end

  module _ (x : Filed) (l : List Filed) (at start : ℕ) (k : Keepable x) (t : Tail (x ∷ l) at start) where
    distance : ℕ
    distance = length (rules_of (x ∷ l)) + after

    rules_long : length (rules_of (x ∷ l)) ≡ length x.rule + length (rules_of l)
    unfolding rules_of
    rules_long = length-append x.rule (rules_of l)

    head_reads : Reads b at x.number (length x.rule) distance
    unfolding directory_of distance
    head_reads =
        let e = entry_of x.number (length x.rule) distance in
        let q : b ≡ t.pre ++ (e ++ (directory_of after l ++ t.post)) = t.entries ∙ rw append_assoc in
        let s = t.ends in
        rw (q, ← t.at_is) (entry_read t.pre (directory_of after l ++ t.post) x.number (length x.rule) distance k.short (omega arith))

    next : Tail l (at + 8) (start + length x.rule)
    unfolding directory_of rules_of distance
    next =
        let e = entry_of x.number (length x.rule) distance in
        let s = t.ends in
        let m = rules_long in
        record {
          pre = t.pre ++ e;
          post = t.post;
          front = t.front ++ x.rule;
          rest = t.rest;
          entries = t.entries ∙ simp append_assoc;
          rules = t.rules ∙ simp append_assoc;
          at_is = length-append t.pre e ∙ rw (t.at_is, length_entry x.number (length x.rule) distance);
          start_is = length-append t.front x.rule ∙ rw t.start_is;
          ends = omega arith;
        }

    spans : distance_at b at + start ≡ length b
    unfolding distance
    spans = let e = t.ends in omega (arith, head_reads.distance_is)

    head_rule : take (length x.rule) (drop start b) ≡ x.rule
    unfolding rules_of
    head_rule =
        rw (t.rules, drop_at t.front (rules_of (x ∷ l) ++ t.rest) start t.start_is, append_assoc)
        (take_at x.rule (rules_of l ++ t.rest) (length x.rule) refl)

  tail_filled : (l : List Filed) (at start : ℕ) → AllKeepable l → Tail l at start → filled b end (length l) at start ≡ true
  unfolding AllKeepable rules_of filled
  tail_filled [] at start k t = let e = t.ends in eq-eqb start end (omega arith)
  tail_filled (x ∷ l) at start k t =
      let r = head_reads x l at start k.0 t in
      let d = r.distance_is in
      let e = t.ends in
      (filled_says b end (length l) at start).1 (
        r.spare_is,
        (spans x l at start k.0 t, rw r.length_is (tail_filled l (at + 8) (start + length x.rule) k.1 (next x l at start k.0 t))),
      )

  tail_entries : (l : List Filed) (at start : ℕ) → AllKeepable l → Tail l at start → entries_from b (length l) at start ≡ l
  unfolding AllKeepable entries_from
  tail_entries [] at start k t = refl
  tail_entries (x ∷ l) at start k t =
      let r = head_reads x l at start k.0 t in
      rw (r.number_is, r.length_is, head_rule x l at start k.0 t, tail_entries l (at + 8) (start + length x.rule) k.1 (next x l at start k.0 t))

-- the book of some rules

rules_short : (l : List Filed) → AllKeepable l → length (rules_of l) ≤ 65535 * length l
unfolding rules_of AllKeepable
rules_short [] k = omega arith
rules_short (x ∷ l) k =
    let h = k.0.short in
    omega (arith, length-append x.rule (rules_of l), rules_short l k.1)

module _ (l : List Filed) (few : length l ≤ 1024) where
  count_book : count_in (book_of l) ≡ length l
  unfolding count_in book_of digits
  count_book =
      let p = rules_of l ++ directory_of (after_rules (length l)) l in
      let c = digits 2 (length l) in
      let a : book_of l ≡ p ++ c = sym (append_assoc (rules_of l) (directory_of (after_rules (length l)) l) c) in
      let n : length (p ++ c) ≡ length p + 2 = length-append p c in
      let i : length (p ++ c) - 2 ≡ length p = omega arith in
      rw (a, i, drop_at p c (length p) refl) (value_of_digits 2 (length l) (omega arith))

  directory_book : directory_in (book_of l) ≡ length (rules_of l)
  directory_book = rw (count_book, length_book) (omega arith)

  module _ (k : AllKeepable l) where
    book_fits : length (book_of l) < 4294967296
    book_fits = rw length_book (omega (arith, rules_short l k))

    book_whole : length (rules_of l) + after_rules (length l) ≡ length (book_of l)
    book_whole = sym (length_book l)

    book_tail : Tail (book_of l) (length (rules_of l)) (after_rules (length l)) book_whole book_fits l (length (rules_of l)) 0
    unfolding book_of
    book_tail =
        record {
          pre = rules_of l;
          post = digits 2 (length l);
          front = [];
          rest = directory_of (after_rules (length l)) l ++ digits 2 (length l);
          entries = refl;
          rules = refl;
          at_is = refl;
          start_is = refl;
          ends = omega arith;
        }

    pub book_formed : well_formed (book_of l) ≡ true
    book_formed =
        (formed_says (book_of l)).1 (
        record {
          long = rw length_book (omega arith);
          few = rw count_book few;
          fits = rw (count_book, length_book) (omega arith);
          full = rw (directory_book, count_book)
              (tail_filled (book_of l) (length (rules_of l)) (after_rules (length l)) book_whole book_fits l (length (rules_of l)) 0 k book_tail);
        }
        )

    pub book_entries : entries_in (book_of l) ≡ l
    unfolding entries_in
    book_entries =
        rw (directory_book, count_book)
        (tail_entries (book_of l) (length (rules_of l)) (after_rules (length l)) book_whole book_fits l (length (rules_of l)) 0 k book_tail)

-- a well formed book is the book of its entries

module _ (b : List ℕ) (bytes : Bytes b) where
  entry_back : (at : ℕ) → at + 8 ≤ length b → spare_at b at ≡ 0
      → entry_of (number_at b at) (length_at b at) (distance_at b at) ≡ take 8 (drop at b)
  unfolding length_at distance_at
  entry_back at h z =
      rw (part_back 2 (at + 2) b (omega arith) bytes, part_back 4 (at + 4) b (omega arith) bytes)
      (sym (take-add 2 6 (drop at b) ∙ rw (
        drop-drop 2 at b,
        take-add 2 4 (drop (at + 2) b),
        drop-drop 2 (at + 2) b,
        at_4,
        drop-cons b at 0 (omega arith),
        drop-cons b (suc at) 0 (omega arith),
        ← add-one at,
        z,
      )))
    where
      at_4 : at + 2 + 2 ≡ at + 4
      at_4 = omega arith

  module _ (end after : ℕ) (whole : end + after ≡ length b) where
    directory_back : (n at start : ℕ) → filled b end n at start ≡ true → at + 8 * n ≤ length b
        → directory_of after (entries_from b n at start) ≡ take (8 * n) (drop at b)
    unfolding directory_of entries_from
    directory_back zero at start p h = refl
    directory_back (suc n) at start p h =
        let s = (filled_says b end n at start).0 p in
        let q : 8 * suc n ≡ 8 + 8 * n = omega arith in
        rw (
          first_size b end after whole n at start p,
          first_distance b end after whole n at start p,
          q,
          take-add 8 (8 * n) (drop at b),
          drop-drop 8 at b,
          ← entry_back at (omega arith) s.0,
          directory_back n (at + 8) (start + length_at b at) s.1.1 (omega arith),
        )

  length_short : (at : ℕ) → length_at b at < 65536
  unfolding length_at
  length_short at =
      let t = take 2 (drop (at + 2) b) in
      let n : length t ≤ 2 = rw length-take (omega arith) in
      lt_of_lt_of_le (value_of_lt t (bytes_take 2 (drop (at + 2) b) (bytes_drop (at + 2) b bytes))) (pow-le-pow_right {n = 256} (lit< tt) n)

  pub entries_keepable : (n at start : ℕ) → AllKeepable (entries_from b n at start)
  unfolding AllKeepable entries_from
  entries_keepable zero at start = tt
  entries_keepable (suc n) at start = (
    record { numbered = bytes at; short = rw length-take (omega (arith, length_short at)) },
    entries_keepable n (at + 8) (start + length_at b at),
  )

  count_back : 2 ≤ length b → digits 2 (count_in b) ≡ drop (length b - 2) b
  unfolding count_in
  count_back h =
      let t = drop (length b - 2) b in
      let n : length t ≡ 2 = rw length-drop (omega arith) in
      ap (λ (k : ℕ). digits k (value_of t)) (sym n) ∙ digits_value_of t (bytes_drop (length b - 2) b bytes)

  pub book_back : well_formed b ≡ true → book_of (entries_in b) ≡ b
  unfolding book_of entries_in
  book_back w =
      let f = (formed_says b).0 w in
      let c = count_in b in
      let d = directory_in b in
      let fits = f.fits in
      let z : d - 0 ≡ d = omega arith in
      let k : d + 8 * c ≡ length b - 2 = omega arith in
      rw (
        entries_long b c d 0,
        rules_back b d (after_rules c) (omega arith) c d 0 f.full,
        directory_back d (after_rules c) (omega arith) c d 0 f.full (omega arith),
        count_back f.long,
        z,
        ← k,
        ← drop-drop (8 * c) d b,
        take-append-drop (8 * c) (drop d b),
      )
      (take-append-drop d b)

-- bytes are not refused 17 exactly when they are the book of a list, which is the only one
pub formed_exactly : (b : List ℕ) → Bytes b → (well_formed b ≡ true) ↔ ((l : List Filed) × IsBookOf b l)
unfolding entries_in
formed_exactly b bytes = (
  λ w. (
    entries_in b,
    record {
      few = rw (entries_count b) ((formed_says b).0 w).few;
      kept = entries_keepable b bytes (count_in b) (directory_in b) 0;
      is = sym (book_back b bytes w);
    },
  ),
  λ p. rw p.1.is (book_formed p.0 p.1.few p.1.kept),
)

pub only_list : {b : List ℕ} {l m : List Filed} → IsBookOf b l → IsBookOf b m → l ≡ m
only_list {b} {l} {m} x y = sym (book_entries l x.few x.kept) ∙ ap entries_in (sym x.is ∙ y.is) ∙ book_entries m y.few y.kept

-- and it is the list of its entries
pub entries_are : {b : List ℕ} {l : List Filed} → IsBookOf b l → entries_in b ≡ l
entries_are {l = l} x = ap entries_in x.is ∙ book_entries l x.few x.kept
