-- Laws of the cells and of the last six bytes: the loop that fills them, and the whole sheet.
-- Assumes nothing.
use Prim.Native.Nat.{ℕ, zero, suc, ◌+◌, ◌-◌, ◌*◌, ◌≤◌, ◌<◌}
use native.Mathlib.Omega.{arith}
use native.Mathlib.Numerals.{add-one}
use mathlib.Core.Path.{◌≡◌, refl, sym, ap, ◌∙◌}
use mathlib.Core.List.{List, [], ◌∷◌, ◌++◌, map, append-nil}
use lib.ListN.{length, get_or, take, drop, set, length-append, length-map, drop_of_length-le}
use lib.Seq.{take-suc, take_all, length-take-le, get_or-append-add, get_or-drop}
use borrow.Rule.Slice.PartMut.{put_mid}
use mir.Val.{Fits}
use mir.Syntax.{w8}
use Rattle.octets.specs.Numbers.{digits}
use Rattle.octets.proofs.ListLaws.{store_more, part_more}
use Rattle.rule.specs.Drawing.{Drawing, body}
use Rattle.rule.specs.Operations.{mark_of}
use Rattle.rule.specs.declared.Operation.{Operation}
use Rattle.rule.specs.declared.Operation.TheVariants.{Halt, Store, Dump}
use Rattle.rule.specs.declared.Pair.{Pair}
use Rattle.rule.specs.declared.Shape.{Shape}
use Rattle.rule.specs.WellDrawn.{WellDrawn}
use Rattle.operations.specs.Marks.{operation_in, marks_of}
use Rattle.operations.specs.declared.Marks.{Marks}
use Rattle.operations.proofs.MarkLaws.{marks_at}
use Rattle.rule.specs.declared.Refusal.TheVariants.{Room}
use Rattle.rule.specs.Putting.{PutPromise}
use Rattle.rule.proofs.PutLaws.{keeps_no_room, keeps_done}
use Rattle.sheet.specs.Layout.{cell_of, end_of, sheet_of}
use Rattle.std.specs.Prelude.{Ok, Err}

-- an operation's number is at most 2, and 64 times it is a byte
mark_small : (o : Operation) → mark_of o ≤ 2
mark_small Halt = omega arith
mark_small Store = omega arith
mark_small Dump = omega arith

pub mark_fits : {x : ℕ} (o : Operation) → x ≡ mark_of o → Fits w8 (64 * x)
mark_fits o e = omega (arith, mark_small o)

-- the loop over the cells: next state + 64 * operation
module _ (marks : Marks) where
  abbrev pub with_mark : ℕ → ℕ
  with_mark t = t + 64 * mark_of (operation_in marks t)

  map_snoc : (l : List ℕ) (x : ℕ) → map with_mark (l ++ (x ∷ [])) ≡ map with_mark l ++ (with_mark x ∷ [])
  map_snoc [] x = refl
  map_snoc (y ∷ l) x = ap (λ (r : List ℕ). with_mark y ∷ r) (map_snoc l x)

  module _ (table : List ℕ) where
    pub cells_none : {out : List ℕ} → out ≡ table → out ≡ map with_mark (take 0 table) ++ drop 0 table
    cells_none e = e

    module _ (out : List ℕ) (i : ℕ) (e : out ≡ map with_mark (take i table) ++ drop i table) (h : i < length table) where
      front_long : length (map with_mark (take i table)) ≡ i
      front_long = length-map (take i table) with_mark ∙ length-take-le i table (omega arith)

      -- the next byte is still the table's
      untouched : get_or out i 0 ≡ get_or table i 0
      untouched =
          let z : i ≡ length (map with_mark (take i table)) + 0 = rw front_long (omega arith) in
          rw e (ap (λ (k : ℕ). get_or (map with_mark (take i table) ++ drop i table) k 0) z
          ∙ get_or-append-add (map with_mark (take i table)) (drop i table) 0 0 ∙ get_or-drop i table 0 0 ∙ ap (λ (k : ℕ). get_or table k 0) (omega arith))

      -- a cell is a byte
      pub cell_fits : ((i : ℕ) → get_or table i 0 < 64) → (o : Operation) {x : ℕ} → x ≡ mark_of o → Fits w8 (get_or out i 0 + 64 * x)
      cell_fits low o q = omega (arith, untouched, low i, mark_small o)

      pub cells_more : {o : Operation} {x : ℕ} → o ≡ operation_in marks (get_or out i 0) → x ≡ mark_of o
          → set out i (get_or out i 0 + 64 * x) ≡ map with_mark (take (i + 1) table) ++ drop (i + 1) table
      cells_more is-o is_x =
          rw (is_x, is-o, untouched)
          (rw (e, add-one, take-suc table i 0, map_snoc) (store_more (map with_mark (take i table)) table i (with_mark (get_or table i 0)) 0 front_long (omega arith)))

    pub cells_all : (out : List ℕ) (i : ℕ) → out ≡ map with_mark (take i table) ++ drop i table → length table ≤ i → out ≡ map with_mark table
    cells_all out i e ge =
        e ∙ rw (take_all i table ge, drop_of_length-le table {i = i} (omega arith)) (append-nil (map with_mark table))

-- two functions that agree below n make the same list of elements below n
map_below : (n : ℕ) (f g : ℕ → ℕ) → ((t : ℕ) → t < n → f t ≡ g t) → (l : List ℕ) → ((i : ℕ) → get_or l i 0 < n) → map f l ≡ map g l
map_below n f g e [] low = refl
map_below n f g e (x ∷ l) low = rw (e x (low zero), map_below n f g e l (λ i. low (suc i)))

-- what is lent for the cells, and that each next state is one of 64
pub cells_lent : (table out : List ℕ) → length table + 6 ≤ length out → length (take (length table) out) ≡ length table
cells_lent table out room = length-take-le (length table) out (omega arith)

pub lent_cells : (table out : List ℕ) → length table + 6 ≤ length out → length table ≡ length (take (length table) out)
lent_cells table out room = sym (cells_lent table out room)

pub low_64 : (h : Shape) (table : List ℕ) (pairs : List Pair) → WellDrawn (body h table pairs) → ((i : ℕ) → get_or table i 0 < h.states)
    → (i : ℕ) → get_or table i 0 < 64
low_64 h table pairs well low i = omega (arith, low i, well.few_states)

-- a sheet has a cell for each entry of the table, and six bytes
pub length_sheet : (d : Drawing) → length (sheet_of d) ≡ length d.table + 6
unfolding sheet_of digits
length_sheet d = length-append (map (cell_of d) d.table) (end_of d.shape) ∙ rw length-map

-- the whole sheet: no room, or put at the front of the output
module _ (h : Shape) (table : List ℕ) (pairs : List Pair) (out : List ℕ) where
  sheet_size : length table + 6 ≡ length (sheet_of (body h table pairs))
  sheet_size = sym (length_sheet (body h table pairs))

  pub sheet_no_room : length out < length table + 6 → PutPromise (Ok tt) (sheet_of (body h table pairs)) out (Err Room) out
  sheet_no_room l = keeps_no_room refl (rw sheet_size at l)

  pub sheet_put : {marks : Marks} {front end : List ℕ} → WellDrawn (body h table pairs) → ((i : ℕ) → get_or table i 0 < h.states)
      → length table + 6 ≤ length out → marks ≡ marks_of (body h table pairs) → front ≡ map (with_mark marks) table → end ≡ end_of h
      → PutPromise (Ok tt) (sheet_of (body h table pairs)) out (Ok (length table + 6))
      (put_mid (length table) (length table + 6 - length table) (front ++ drop (length table) out) end)
  unfolding sheet_of digits
  sheet_put {marks} {front} {end} well low room is-marks is_front is-end =
      let d = body h table pairs in
      let q : front ≡ map (cell_of d) table =
      is_front
      ∙ map_below h.states (with_mark marks) (cell_of d) (λ t b. rw (is-marks, marks_at d well t b)) table low in
      let n : length front ≡ length table = rw q (length-map table (cell_of d)) in
      let six : length (end_of h) ≡ length table + 6 - length table = omega arith in
      keeps_done refl sheet_size room
      (rw (q, is-end) (part_more (map (cell_of d) table) (end_of h) out (length table) (length table + 6 - length table) (rw (← q) n) six
      ∙ rw (end_at (length table))))
    where
      end_at : (n : ℕ) → n + (n + 6 - n) ≡ n + 6
      end_at n = omega arith
