-- Laws of the search for a number: the steps of the loop, and that what is found lies in the book.
-- Assumes nothing.
use Prim.Native.Nat.{ℕ, zero, suc, ◌+◌, ◌-◌, ◌*◌, ◌≤◌, ◌<◌}
use native.Mathlib.Omega.{arith}
use borrow.Author.Tests.{eq-eqb}
use mathlib.Core.Path.{◌≡◌, refl, sym, ap, ◌∙◌}
use mathlib.Core.Bool.{Bool, true, false, cond}
use mathlib.Core.List.{List, [], ◌∷◌, ◌++◌}
use lib.Dec.{eqb}
use lib.ListN.{length, get_or, take, drop, length-append, length-take}
use lib.Seq.{take-take, take-append_seam, get_or-append-add}
use native.Mathlib.Numerals.{add-one}
use Rattle.std.proofs.lemmas.List.{get_or-take}
use Rattle.std.specs.Prelude.{Some, None, Ok, Err}
use Rattle.rule.specs.declared.Refusal.TheVariants.{Missing}
use Rattle.book.specs.Directory.{AreEntries, length_at, distance_at, count_in, directory_in, well_formed}
use Rattle.book.specs.Finding.{Sought, Entry, entry_at, newest_of, newest_first, seek, sought_in}
use Rattle.book.proofs.ChunkLaws.{number_read, length_read, distance_read}
use Rattle.book.proofs.DirectoryLaws.{Placed, placed}

-- what is answered past the oldest entry: whether some had the number is seen by the age that is left
abbrev pub ended : (older age : ℕ) → Sought
ended older age = cond (eqb older age) (Ok None) (Err Missing)

-- the search goes over the entries from the last on: of those that are left the last is the newest, and its rule begins in the book
abbrev entry_by : (b e : List ℕ) → Entry
entry_by b e = record { number = get_or e 0 0; start = length b - distance_at e 0; size = length_at e 0 }

newest_step : (b : List ℕ) (d left : ℕ) → 0 < left → newest_of b d left ≡ entry_at b (d + 8 * (left - 1)) ∷ newest_of b d (left - 1)
unfolding newest_of
newest_step b d zero h = absurd (omega arith)
newest_step b d (suc n) h = let q : suc n - 1 ≡ n = omega arith in rw q

pub record Turn (b : List ℕ) (start : ℕ) (entries left rest : List (List ℕ)) (e : List ℕ) : Type 0 where
  pub newest : newest_of b start (length left) ≡ entry_by b e ∷ newest_of b start (length rest)
  pub front : take (length rest) entries ≡ rest
  pub begins : distance_at e 0 ≤ length b

module _ {b : List ℕ} {start : ℕ} {entries : List (List ℕ)} (w : well_formed b ≡ true) (is : length entries ≡ count_in b)
    (ends : start + (8 * length entries + 2) ≡ length b) (are : AreEntries b start entries)
    (left rest : List (List ℕ)) (e : List ℕ) (cut : left ≡ rest ++ (e ∷ [])) (front : take (length left) entries ≡ left) where
  count : length left ≡ length rest + 1
  count = ap length cut ∙ length-append rest (e ∷ [])

  inside : length rest < length entries
  inside =
      let n : length (take (length left) entries) ≤ length entries = rw length-take (omega arith) in
      omega (arith, count, ap length front)

  here : e ≡ take 8 (drop (start + 8 * length rest) b)
  here =
      let z : length rest + 0 ≡ length rest = omega arith in
      let seam : get_or (rest ++ (e ∷ [])) (length rest) [] ≡ e = rw z at (get_or-append-add rest (e ∷ []) 0 []) in
      sym (sym (get_or-take (length left) entries (length rest) [] (omega (arith, count)))
      ∙ ap (λ (l : List (List ℕ)). get_or l (length rest) []) (front ∙ cut) ∙ seam)
      ∙ are.each (length rest) inside

  newest_here : newest_of b start (length left) ≡ entry_by b e ∷ newest_of b start (length rest)
  unfolding newest_of
  newest_here =
      let at = start + 8 * length rest in
      rw (count, add-one, number_read b at e here, distance_read b at e here, length_read b at e here)

  pub turn : Turn b start entries left rest e
  turn =
      let d : start ≡ directory_in b = omega (arith, is) in
      record {
        newest = newest_here;
        front = sym (take-take (length rest) (length left) entries (omega (arith, count)))
            ∙ ap (take (length rest)) (front ∙ cut) ∙ take-append_seam rest (e ∷ []);
        begins = rw (distance_read b (start + 8 * length rest) e here, d) (placed b w (length rest) (rw is at inside)).begins;
      }

pub newest_none : (b : List ℕ) (d : ℕ) (left : List (List ℕ)) → left ≡ [] → newest_of b d (length left) ≡ []
unfolding newest_of
newest_none b d left h = rw h

pub sought_from : (b : List ℕ) (number age start count : ℕ) → count ≡ count_in b → start + (8 * count + 2) ≡ length b
    → seek number age (ended age age) (newest_of b start count) ≡ sought_in b number age
unfolding sought_in newest_first
sought_from b number age start count is ends =
    let d : directory_in b ≡ start = omega (arith, is) in
    rw (d, is, eq-eqb age age refl)

-- what is found does not depend on what is answered where nothing is
pub found_alike : (number age start size : ℕ) (x y : Sought) → ((s z : ℕ) → x ≡ Ok (Some (s, z)) → ⊥) → ((s z : ℕ) → y ≡ Ok (Some (s, z)) → ⊥)
    → (l : List Entry) → seek number age x l ≡ Ok (Some (start, size)) → seek number age y l ≡ Ok (Some (start, size))
unfolding seek
found_alike number age start size x y nx ny [] p = absurd (nx start size p)
found_alike number age start size x y nx ny (e ∷ l) p = by (eqb e.number number) (found_alike number age start size x y nx ny l) p
  where
    by : (t : Bool) → (seek number age x l ≡ Ok (Some (start, size)) → seek number age y l ≡ Ok (Some (start, size)))
        → cond t (cond (eqb age 0) (Ok (Some (e.start, e.size))) (seek number (age - 1) (Err Missing) l)) (seek number age x l) ≡ Ok (Some (start, size))
        → cond t (cond (eqb age 0) (Ok (Some (e.start, e.size))) (seek number (age - 1) (Err Missing) l)) (seek number age y l) ≡ Ok (Some (start, size))
    by true rest q = q
    by false rest q = rest q

pub not_older : (s z : ℕ) → ◌≡◌ {A = Sought} (Err Missing) (Ok (Some (s, z))) → ⊥
not_older s z p = cc

pub not_nowhere : (s z : ℕ) → ◌≡◌ {A = Sought} (Ok None) (Ok (Some (s, z))) → ⊥
not_nowhere s z p = cc

-- what is found lies before the directory

Inside : ℕ → List Entry → Type 0
Inside end [] = Unit {0}
Inside end (x ∷ l) = (x.start + x.size ≤ end) × Inside end l

newest_inside : (b : List ℕ) (end d n : ℕ) → ((i : ℕ) → i < n → Placed b end (d + 8 * i)) → Inside end (newest_of b d n)
unfolding newest_of Inside
newest_inside b end d zero all = tt
newest_inside b end d (suc n) all = ((all n (omega arith)).ends, newest_inside b end d n (λ i h. all i (omega arith)))

seek_inside : (end number age start size : ℕ) (none : Sought) → ((s z : ℕ) → none ≡ Ok (Some (s, z)) → ⊥) → (l : List Entry) → Inside end l
    → seek number age none l ≡ Ok (Some (start, size)) → start + size ≤ end
unfolding seek Inside
seek_inside end number age start size none never [] i p = absurd (never start size p)
seek_inside end number age start size none never (x ∷ l) i p =
    by (eqb x.number number) (eqb age 0) p
    (seek_inside end number (age - 1) start size (Err Missing) not_older l i.1)
    (seek_inside end number age start size none never l i.1)
  where
    by : (t z : Bool) → cond t (cond z (Ok (Some (x.start, x.size))) (seek number (age - 1) (Err Missing) l)) (seek number age none l) ≡ Ok (Some (start, size))
        → (seek number (age - 1) (Err Missing) l ≡ Ok (Some (start, size)) → start + size ≤ end)
        → (seek number age none l ≡ Ok (Some (start, size)) → start + size ≤ end)
        → start + size ≤ end
    by true true q f g =
        let e : ◌≡◌ {A = ℕ × ℕ} (x.start, x.size) (start, size) = cc in
        let s : x.start ≡ start = ap (λ (p : ℕ × ℕ). p.0) e in
        let z : x.size ≡ size = ap (λ (p : ℕ × ℕ). p.1) e in
        let h = i.0 in
        omega arith
    by true false q f g = f q
    by false z q f g = g q

module _ (b : List ℕ) (w : well_formed b ≡ true) where
  pub sought_is : (number age : ℕ) {n : ℕ} → n ≡ count_in b → {r : Sought}
      → r ≡ seek number age (Ok None) (newest_of b (length b - (8 * n + 2)) n) → r ≡ sought_in b number age
  unfolding sought_in newest_first
  sought_is number age is q = q ∙ rw is

  pub sought_inside : (number age start size : ℕ) → sought_in b number age ≡ Ok (Some (start, size)) → start + size ≤ length b
  unfolding sought_in newest_first
  sought_inside number age start size p =
      let h = seek_inside (directory_in b) number age start size (Ok None) not_nowhere (newest_first b)
      (newest_inside b (directory_in b) (directory_in b) (count_in b) (placed b w)) p in
      omega arith
