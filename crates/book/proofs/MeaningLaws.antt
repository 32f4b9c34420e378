-- What is found is the entry in force, and its bytes are that entry's rule.
-- Assumes nothing.
use Prim.Native.Nat.{ℕ, zero, suc, ◌+◌, ◌-◌, ◌≤◌, ◌<◌}
use native.Mathlib.Omega.{arith}
use native.Mathlib.Decide.{dec_lt}
use borrow.Author.Tests.{eq-eqb, ne_eqb, eqb-true}
use mathlib.Core.Path.{◌≡◌, refl, sym, ap, ◌∙◌}
use mathlib.Core.Bool.{Bool, true, false, cond}
use mathlib.Core.List.{List, [], ◌∷◌, ◌++◌, append_assoc}
use lib.Dec.{eqb}
use lib.ListN.{length, take, drop, length-append, take-append-drop}
use lib.Seq.{take_at, drop_at}
use Rattle.std.specs.Prelude.{Some, None, Ok, Err}
use Rattle.rule.specs.declared.Refusal.TheVariants.{Missing}
use Rattle.book.specs.Book.{Filed, rules_of}
use Rattle.book.specs.Directory.{directory_in, well_formed, entries_in}
use Rattle.book.specs.Finding.{Sought, Entry, seek, sought_in, times, InForce}
use Rattle.book.proofs.EntriesLaws.{entry_for, onto, rules_append, rules_are, newest_are}

-- what is answered past so many entries with the number
past : ℕ → Sought → Sought
past zero none = none
past (suc k) none = Err Missing

-- in the entries of a list, newest first, that stand before others: none so old, so the search goes on in the others
seek_past : (number : ℕ) (l : List Filed) (start age : ℕ) (none : Sought) (others : List Entry) → times number l ≤ age
    → seek number age none (onto start l others) ≡ seek number (age - times number l) (past (times number l) none) others
unfolding times onto past seek
seek_past number [] start age none others h = let z : age - 0 ≡ age = omega arith in rw z
seek_past number (x ∷ l) start age none others h =
    by (eqb x.number number) refl h (seek_past number l (start + length x.rule) age none (entry_for x start ∷ others))
  where
    by : (t : Bool) → eqb x.number number ≡ t → cond t (suc (times number l)) (times number l) ≤ age
        → (times number l ≤ age
        → seek number age none (onto (start + length x.rule) l (entry_for x start ∷ others))
        ≡ seek number (age - times number l) (past (times number l) none) (entry_for x start ∷ others))
        → seek number age none (onto (start + length x.rule) l (entry_for x start ∷ others))
        ≡ seek number (age - cond t (suc (times number l)) (times number l)) (past (cond t (suc (times number l)) (times number l)) none) others
    by true e h rest =
        let q : age - times number l - 1 ≡ age - suc (times number l) = omega arith in
        rest (omega arith) ∙ rw (e, ne_eqb (age - times number l) 0 (λ z. omega arith), q)
    by false e h rest = rest h ∙ rw e

-- one is: it is the entry in force
record Hit (number : ℕ) (l : List Filed) (start age : ℕ) (found : Sought) : Type 0 where
  begins : ℕ
  size : ℕ
  force : InForce l number age begins size
  found_is : found ≡ Ok (Some (start + begins, size))

seek_hit : (number : ℕ) (l : List Filed) (start age : ℕ) (none : Sought) (others : List Entry) → age < times number l
    → Hit number l start age (seek number age none (onto start l others))
unfolding times onto seek rules_of
seek_hit number [] start age none others h = absurd (omega arith)
seek_hit number (x ∷ l) start age none others h =
    elim (dec_lt age (times number l)) [
      | yes b ↦ older (seek_hit number l (start + length x.rule) age none (entry_for x start ∷ others) b)
      | no b ↦ here (eqb x.number number) refl h (omega arith)
    ]
  where
    found : Sought
    found = seek number age none (onto (start + length x.rule) l (entry_for x start ∷ others))

    older : Hit number l (start + length x.rule) age found → Hit number (x ∷ l) start age found
    older r =
        let f = r.force in
        let q : start + length x.rule + r.begins ≡ start + (length x.rule + r.begins) = omega arith in
        record {
          begins = length x.rule + r.begins;
          size = r.size;
          force = record {
            before = x ∷ f.before;
            entry = f.entry;
            after = f.after;
            is = ap (λ (m : List Filed). x ∷ m) f.is;
            numbered = f.numbered;
            later = f.later;
            begins = rw (length-append x.rule) (ap (λ (k : ℕ). length x.rule + k) f.begins);
            long = f.long;
          };
          found_is = r.found_is ∙ rw q;
        }

    here : (t : Bool) → eqb x.number number ≡ t → age < cond t (suc (times number l)) (times number l) → times number l ≤ age
        → Hit number (x ∷ l) start age found
    here true e h b =
        let q : times number l ≡ age = omega arith in
        let z : age - times number l ≡ 0 = omega arith in
        let s : start ≡ start + 0 = omega arith in
        record {
          begins = 0;
          size = length x.rule;
          force = record { before = []; entry = x; after = l; is = refl; numbered = eqb-true x.number number e; later = q; begins = refl; long = refl };
          found_is = seek_past number l (start + length x.rule) age none (entry_for x start ∷ others) b
              ∙ rw (e, eq-eqb (age - times number l) 0 z) (ap (λ (k : ℕ). Ok (Some (k, length x.rule))) s);
        }
    here false e h b = absurd (omega arith)

-- what a search in one book means, of the list that it is the book of
pub data Means (l : List Filed) (number age : ℕ) : Sought → Type 0 where
  in_force : {start size : ℕ} → InForce l number age start size → Means l number age (Ok (Some (start, size)))
  too_old : 0 < times number l → times number l ≤ age → Means l number age (Err Missing)
  nowhere : times number l ≡ 0 → Means l number age (Ok None)

pub sought_means : (b : List ℕ) (number age : ℕ) → well_formed b ≡ true → Means (entries_in b) number age (sought_in b number age)
unfolding sought_in seek past
sought_means b number age w =
    elim (dec_lt age (times number (entries_in b))) [
      | yes h ↦
          let r = seek_hit number (entries_in b) 0 age (Ok None) [] h in
          let z : 0 + r.begins ≡ r.begins = omega arith in
          rw (newest_are b w, r.found_is, z) (in_force r.force)
      | no h ↦ rw (newest_are b w, seek_past number (entries_in b) 0 age (Ok None) [] (omega arith)) (by (times number (entries_in b)) refl (omega arith))
    ]
  where
    by : (k : ℕ) → times number (entries_in b) ≡ k → k ≤ age → Means (entries_in b) number age (seek number (age - k) (past k (Ok None)) [])
    by zero e h = nowhere e
    by (suc k) e h = too_old (rw e (omega arith)) (rw e h)

-- an entry in force is one that has the number
times_append : (number : ℕ) (l m : List Filed) → times number (l ++ m) ≡ times number l + times number m
unfolding times
times_append number [] m = omega arith
times_append number (x ∷ l) m = by (eqb x.number number) (times_append number l m)
  where
    by : (t : Bool) → times number (l ++ m) ≡ times number l + times number m
        → cond t (suc (times number (l ++ m))) (times number (l ++ m)) ≡ cond t (suc (times number l)) (times number l) + times number m
    by true e = omega arith
    by false e = e

pub force_counts : {l : List Filed} {number age start size : ℕ} → InForce l number age start size → age < times number l
unfolding times
force_counts {l} {number} f =
    let e = times_append number f.before (f.entry ∷ f.after) in
    let q = rw (eq-eqb f.entry.number number f.numbered) at e in
    let k = f.later in
    rw f.is (omega arith)

-- its bytes are its rule
pub force_bytes : (b : List ℕ) → well_formed b ≡ true → {number age start size : ℕ} (f : InForce (entries_in b) number age start size)
    → take size (drop start b) ≡ f.entry.rule
unfolding rules_of
force_bytes b w {start = start} {size = size} f =
    let x = f.entry in
    let whole : b ≡ rules_of f.before ++ (x.rule ++ (rules_of f.after ++ drop (directory_in b) b)) =
    sym (take-append-drop (directory_in b) b)
    ∙ ap (λ (l : List ℕ). l ++ drop (directory_in b) b) (sym (rules_are b w) ∙ ap rules_of f.is ∙ rules_append f.before (x ∷ f.after))
    ∙ simp append_assoc in
    ap (λ (l : List ℕ). take size (drop start l)) whole
    ∙ rw (drop_at (rules_of f.before) (x.rule ++ (rules_of f.after ++ drop (directory_in b) b)) start (sym f.begins))
    (take_at x.rule (rules_of f.after ++ drop (directory_in b) b) size (sym f.long))
