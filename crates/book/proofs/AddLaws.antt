-- Adding: what it writes is the book of the list with one entry more, the returns of `add`, and what the new book is to the old one.
-- Assumes nothing.
use Prim.Native.Nat.{ℕ, zero, suc, ◌+◌, ◌-◌, ◌*◌, ◌<◌}
use native.Mathlib.Omega.{arith}
use borrow.Author.Tests.{eq-eqb, ne_eqb, leb-false, not-false}
use mathlib.Core.Path.{◌≡◌, refl, sym, ap, ◌∙◌}
use mathlib.Core.Bool.{true}
use mathlib.Core.List.{List, [], ◌∷◌, ◌++◌, append_assoc, append-nil}
use lib.ListN.{length, take, length-append}
use lib.Seq.{take_at, drop_at}
use Rattle.octets.specs.Numbers.{Bytes, digits}
use Rattle.rule.specs.declared.Refusal.{Refusal}
use Rattle.std.specs.Prelude.{None, Ok, Err}
use Rattle.rule.specs.declared.Refusal.TheVariants.{Missing}
use Rattle.rule.proofs.RefusalLaws.{first_hit, first_more, first_sound, refuse_sound}
use Rattle.rulefile.specs.Layout.{flat_up_to}
use Rattle.rulefile.specs.Reading.{verdict_on, parts_of}
use Rattle.rulefile.specs.declared.Contents.{Contents}
use Rattle.rule.proofs.PutLaws.{put_done}
use Rattle.rulefile.proofs.ListLaws.{flat_ext}
use Rattle.rulefile.proofs.PartsLaws.{sound_file, sound_parts, parts_refused, parts_sound}
use Rattle.rule.proofs.PutLaws.{keeps_refused}
use Rattle.book.specs.Book.{Filed, filed, rules_of, entry_of, directory_of, after_rules, book_of, Keepable, AllKeepable, IsBookOf}
use Rattle.book.specs.Directory.{length_at, distance_at, count_in, directory_in, filled, well_formed, entries_from, entries_in}
use Rattle.book.specs.Finding.{newest_first, seek, sought_in}
use Rattle.book.specs.Adding.{with_rule, add_verdict, AddPromise, Adds, moved_at, moved_of, last_of, grown}
use Rattle.book.proofs.DirectoryLaws.{filled_says, formed_says}
use Rattle.book.proofs.SeekLaws.{found_alike, not_older, not_nowhere}
use Rattle.book.proofs.EntriesLaws.{entries_count, book_whole, rules_append, rules_one}
use Rattle.book.proofs.EntriesLaws.{first_size, first_distance, entry_for, onto, onto_last, rules_are, rules_long, newest_are}
use Rattle.book.proofs.BookLaws.{book_formed, entries_are, formed_exactly}

-- one rule more

directory_last : (after : ℕ) (l : List Filed) (x : Filed)
    → directory_of after (l ++ (x ∷ [])) ≡ directory_of (length x.rule + after) l ++ entry_of x.number (length x.rule) (length x.rule + after)
unfolding directory_of
directory_last after [] x = rw (rules_one x) (append-nil (entry_of x.number (length x.rule) (length x.rule + after)))
directory_last after (y ∷ l) x =
    let q : length (rules_of (y ∷ (l ++ (x ∷ [])))) + after ≡ length (rules_of (y ∷ l)) + (length x.rule + after) =
    rw (rules_append (y ∷ l) (x ∷ []), rules_one x, length-append (rules_of (y ∷ l)) x.rule) (omega arith) in
    rw (q, directory_last after l x)
    (sym (append_assoc (entry_of y.number (length y.rule) (length (rules_of (y ∷ l)) + (length x.rule + after)))
    (directory_of (length x.rule + after) l)
    (entry_of x.number (length x.rule) (length x.rule + after))))

-- the old entries, moved

flat_front : {A : Type 0} (f : ℕ → List A) (n : ℕ) → flat_up_to f (suc n) ≡ f 0 ++ flat_up_to (λ i. f (suc i)) n
unfolding flat_up_to
flat_front f zero = sym (append-nil (f 0))
flat_front f (suc n) = ap (λ l. l ++ f (suc n)) (flat_front f n) ∙ append_assoc (f 0) (flat_up_to (λ i. f (suc i)) n) (f (suc n))

module _ (b : List ℕ) (end after : ℕ) (whole : end + after ≡ length b) (grow : ℕ) where
  moved_front : (n at : ℕ) → moved_of b at grow (suc n) ≡ moved_at b at grow 0 ++ moved_of b (at + 8) grow n
  moved_front n at =
      flat_front (moved_at b at grow) n
      ∙ ap (λ (l : List ℕ). moved_at b at grow 0 ++ l) (flat_ext (λ i. moved_at b at grow (suc i)) (moved_at b (at + 8) grow) n (λ i h. next i))
    where
      next : (i : ℕ) → moved_at b at grow (suc i) ≡ moved_at b (at + 8) grow i
      next i = let q : at + 8 * suc i ≡ at + 8 + 8 * i = omega arith in rw q

  moved_is : (n at start : ℕ) → filled b end n at start ≡ true → moved_of b at grow n ≡ directory_of (after + grow) (entries_from b n at start)
  unfolding directory_of entries_from flat_up_to
  moved_is zero at start p = refl
  moved_is (suc n) at start p =
      let d = first_distance b end after whole n at start p in
      let distance : length (rules_of (entries_from b (suc n) at start)) + (after + grow) ≡ distance_at b at + grow = omega arith in
      let z : at + 8 * 0 ≡ at = omega arith in
      moved_front n at ∙ rw (
        z,
        first_size b end after whole n at start p,
        distance,
        moved_is n (at + 8) (start + length_at b at) ((filled_says b end n at start).0 p).1.1,
      )

-- what is written is the book of the list with one entry more
pub grown_is : (b : List ℕ) (number : ℕ) (rule : List ℕ) → well_formed b ≡ true → grown b number rule ≡ with_rule b number rule
unfolding grown book_of last_of entries_in
grown_is b number rule w =
    let c = count_in b in
    let x = filed number rule in
    let n : length (entries_in b ++ (x ∷ [])) ≡ c + 1 = length-append (entries_in b) (x ∷ []) ∙ rw (entries_count b) in
    let k : after_rules c + (length rule + 8) ≡ length rule + after_rules (c + 1) = omega arith in
    rw (n, rules_append (entries_in b) (x ∷ []), rules_one x, directory_last (after_rules (c + 1)) (entries_in b) x, rules_are b w, moved, k)
    (simp append_assoc)
  where
    moved : moved_of b (directory_in b) (length rule + 8) (count_in b) ≡ directory_of (after_rules (count_in b) + (length rule + 8)) (entries_in b)
    moved = moved_is b (directory_in b) (after_rules (count_in b)) (book_whole b w) (length rule + 8) (count_in b) (directory_in b) 0 ((formed_says b).0 w).full

-- what `add` needs of a rule file that was looked at
pub add_refused : (b : List ℕ) (number : ℕ) (rule out : List ℕ) {r : Refusal} → well_formed b ≡ true → Err r ≡ parts_of rule
    → AddPromise b number rule out (Err r) out
unfolding add_verdict
add_refused b number rule out w e =
    keeps_refused (first_more _ _ (rw w) ∙ first_hit (verdict_on rule) _ _ (parts_refused rule e))

pub file_short : (rule : List ℕ) {p : Contents} → Ok p ≡ parts_of rule → length rule < 60000
file_short rule e = omega (arith, (sound_parts rule e).short)

pub ruleset adding = (parts_refused, parts_sound, file_short, grown_is)

-- a book with room for one rule more, and what the new one is to it

pub record Open (b rule : List ℕ) : Type 0 where
  pub formed : well_formed b ≡ true
  pub sound : verdict_on rule ≡ Ok tt
  pub room : count_in b < 1024

pub add_open : (b rule : List ℕ) → add_verdict b rule ≡ Ok tt → Open b rule
unfolding add_verdict
add_open b rule e =
    let x = (first_sound _ _).0 e in
    let y = (first_sound _ _).0 x.1 in
    let z = (first_sound _ _).0 y.1 in
    record {
      formed = not-false (well_formed b) ((refuse_sound _ _).0 x.0);
      sound = y.0;
      room = leb-false 1024 (count_in b) ((refuse_sound _ _).0 z.0);
    }

keepable_last : (l : List Filed) (x : Filed) → AllKeepable l → Keepable x → AllKeepable (l ++ (x ∷ []))
unfolding AllKeepable
keepable_last [] x k h = (h, tt)
keepable_last (y ∷ l) x k h = (k.0, keepable_last l x k.1 h)

module _ (b : List ℕ) (number : ℕ) (rule : List ℕ) (l : List Filed) (is : IsBookOf b l) (numbered : number < 256) (o : Open b rule) where
  abbrev x : Filed
  x = filed number rule

  pub added_book : IsBookOf (with_rule b number rule) (entries_in b ++ (x ∷ []))
  added_book =
      let short = (sound_file rule o.sound).framed.short in
      record {
        few = let r = o.room in rw (length-append (entries_in b) (x ∷ []), entries_count b) (omega arith);
        kept = keepable_last (entries_in b) x (rw (entries_are is) is.kept) (record { numbered = numbered; short = omega arith });
        is = refl;
      }

  added_formed : well_formed (with_rule b number rule) ≡ true
  added_formed = book_formed (entries_in b ++ (x ∷ [])) added_book.few added_book.kept

  newest_added : newest_first (with_rule b number rule) ≡ entry_for x (directory_in b) ∷ newest_first b
  newest_added =
      newest_are (with_rule b number rule) added_formed
      ∙ ap (λ (l : List Filed). onto 0 l []) (entries_are added_book)
      ∙ onto_last 0 (entries_in b) x []
      ∙ rw (z, newest_are b o.formed)
    where
      z : 0 + length (rules_of (entries_in b)) ≡ directory_in b
      z = omega (arith, rules_long b o.formed)

  -- the bytes of the new book: the old rules, the new one, and the rest
  added_parts : (rest : List ℕ) × (with_rule b number rule ≡ take (directory_in b) b ++ (rule ++ rest))
  unfolding book_of
  added_parts =
      let m = entries_in b ++ (x ∷ []) in
      let rest = directory_of (after_rules (length m)) m ++ digits 2 (length m) in
      let rules : rules_of m ≡ take (directory_in b) b ++ rule = rules_append (entries_in b) (x ∷ []) ∙ rw (rules_one x, rules_are b o.formed) in
      (rest, ap (λ (r : List ℕ). r ++ rest) rules ∙ append_assoc (take (directory_in b) b) rule rest)

  old_long : length (take (directory_in b) b) ≡ directory_in b
  old_long = rw (← rules_are b o.formed) (rules_long b o.formed)

  sought_older : (age : ℕ) → sought_in (with_rule b number rule) number (age + 1) ≡ seek number age (Err Missing) (newest_first b)
  unfolding sought_in seek
  sought_older age =
      let q : age + 1 - 1 ≡ age = omega arith in
      rw (newest_added, eq-eqb number number refl, ne_eqb (age + 1) 0 (λ z. omega arith), q)

  pub with_rule_adds : Adds b number rule (with_rule b number rule)
  unfolding sought_in seek
  with_rule_adds =
      record {
        formed = added_formed;
        entries = entries_are added_book;
        latest = rw (newest_added, eq-eqb number number refl);
        bytes = rw (added_parts.1, drop_at (take (directory_in b) b) (rule ++ added_parts.0) (directory_in b) old_long)
            (take_at rule added_parts.0 (length rule) refl);
        older = λ age start size. rw (sought_older age) (
          found_alike number age start size (Err Missing) (Ok None) not_older not_nowhere (newest_first b),
          found_alike number age start size (Ok None) (Err Missing) not_nowhere not_older (newest_first b),
        );
        others = λ other age ne. rw (newest_added, ne_eqb number other ne);
        unchanged = rw added_parts.1 (take_at (take (directory_in b) b) (rule ++ added_parts.0) (directory_in b) old_long);
      }

-- what a call that was done leaves at the front of the output
pub add_done : (b : List ℕ) (number : ℕ) (rule out : List ℕ) (n : ℕ) (out' : List ℕ) → AddPromise b number rule out (Ok n) out'
    → (Open b rule) × (take n out' ≡ with_rule b number rule)
add_done b number rule out n out' p =
    let put = put_done (add_verdict b rule) (with_rule b number rule) out n out' p in
    (add_open b rule put.sound, put.front)

pub add_adds : (b : List ℕ) (number : ℕ) (rule out : List ℕ) (n : ℕ) (out' : List ℕ) → Bytes b → number < 256 → AddPromise b number rule out (Ok n) out'
    → Adds b number rule (take n out')
add_adds b number rule out n out' bytes numbered p =
    let d = add_done b number rule out n out' p in
    let i = (formed_exactly b bytes).0 d.0.formed in
    rw d.1 (with_rule_adds b number rule i.0 i.1 numbered d.0)
