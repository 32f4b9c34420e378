-- Laws of a made sheet: its length, its cells, and that it opens as what it was made from.
-- Assumes nothing.
use Prim.Native.Nat.{ℕ, zero, suc, ◌+◌, ◌-◌, ◌*◌, ◌/◌, ◌%◌, ◌≤◌, ◌<◌}
use native.Mathlib.Omega.{arith}
use native.Mathlib.Nat.{mul-le-mul, le_of_suc-le-suc}
use mathlib.Core.Path.{◌≡◌, refl, ◌∙◌}
use mathlib.Core.List.{List, [], ◌∷◌, ◌++◌, map}
use lib.ListN.{length, get_or, length-append, length-map, get_or-append}
use lib.Arith.{digits_lt}
use lib.Seq.{get_or-append-add}
use Rattle.octets.specs.Numbers.{digits}
use Rattle.rule.specs.Drawing.{Drawing, states, events, initial, next}
use Rattle.rule.specs.Operations.{mark_of, operation}
use Rattle.rule.specs.Range.{rule_limits, InRange}
use Rattle.rule.specs.Reach.{target, Closed}
use Rattle.rule.specs.declared.Shape.{Shape}
use Rattle.rule.proofs.WayLaws.{closed_low}
use Rattle.sheet.specs.Layout.{back, cell_of, end_of, sheet_of}
use Rattle.sheet.specs.Opening.{opened_of}
use Rattle.std.specs.Prelude.{Ok}
use Rattle.sheet.proofs.OpeningLaws.{opened_when}
use Rattle.making.proofs.CellLaws.{length_sheet}

-- an element of a mapped list
get_d_map : (f : ℕ → ℕ) (l : List ℕ) (i : ℕ) → i < length l → get_or (map f l) i 0 ≡ f (get_or l i 0)
get_d_map f [] i h = absurd (omega arith)
get_d_map f (x ∷ l) zero h = refl
get_d_map f (x ∷ l) (suc i) h = get_d_map f l i (le_of_suc-le-suc h)

-- the last six bytes of a sheet, by their place before the end
end_six : (h : Shape) → length (end_of h) ≡ 6
unfolding digits
end_six h = refl

module _ (d : Drawing) where
  at_end : (k : ℕ) → k ≤ 6 → back (sheet_of d) k ≡ get_or (end_of d.shape) (6 - k) 0
  unfolding sheet_of
  at_end k h =
      let front = map (cell_of d) d.table in
      let end = end_of d.shape in
      let n : length (front ++ end) - k ≡ length front + (6 - k) = rw (length-append front end, end_six d.shape) (omega arith) in
      rw n (get_or-append-add front end (6 - k) 0)

  low_byte : back (sheet_of d) 2 ≡ (states d * events d + 6) % 256
  unfolding digits
  low_byte = at_end 2 (omega arith)

  high_byte : back (sheet_of d) 1 ≡ (states d * events d + 6) / 256 % 256
  unfolding digits
  high_byte = at_end 1 (omega arith)

-- a drawing of which a sheet can be made
pub record Formed (d : Drawing) : Type 0 where
  pub is_in_range : InRange rule_limits (states d) (events d) (initial d)
  pub cells : length d.table ≡ states d * events d
  pub entries_stay_in : Closed d.table (states d) (events d)

module _ {d : Drawing} (f : Formed d) where
  -- every byte of its table is a state
  pub low : (i : ℕ) → get_or d.table i 0 < states d
  low = closed_low d.table (states d) (events d) f.is_in_range.some_states f.is_in_range.some_events f.cells f.entries_stay_in

  pub sheet_length : length (sheet_of d) ≡ states d * events d + 6
  sheet_length = length_sheet d ∙ rw f.cells

  -- the cell of state s at event e
  module _ (s e : ℕ) (hs : s < states d) (he : e < events d) where
    pub sheet_cell : get_or (sheet_of d) (s * events d + e) 0 ≡ next d s e + 64 * mark_of (operation d s e)
    unfolding sheet_of target
    sheet_cell =
        let n : s * events d + e < length d.table = omega (arith, digits_lt hs he, f.cells) in
        get_or-append (map (cell_of d) d.table) (end_of d.shape) 0 (s * events d + e) (rw length-map n)
        ∙ get_d_map (cell_of d) d.table (s * events d + e) n

    -- what is read back of it
    pub cell_next : get_or (sheet_of d) (s * events d + e) 0 % 64 ≡ next d s e
    cell_next =
        let h = f.entries_stay_in s e hs he in
        let k = f.is_in_range.few_states in
        rw sheet_cell (omega arith)

    pub cell_operation : get_or (sheet_of d) (s * events d + e) 0 / 64 ≡ mark_of (operation d s e)
    cell_operation =
        let h = f.entries_stay_in s e hs he in
        let k = f.is_in_range.few_states in
        rw sheet_cell (omega arith)

  -- it opens, with the N, K and initial state of the drawing
  pub sheet_opens : opened_of (sheet_of d) ≡ Ok (record { states = states d; events = events d; initial = d.shape.initial })
  sheet_opens =
      let n : back (sheet_of d) 6 ≡ states d = at_end d 6 (omega arith) in
      let k : back (sheet_of d) 5 ≡ events d = at_end d 5 (omega arith) in
      let i : back (sheet_of d) 4 ≡ initial d = at_end d 4 (omega arith) in
      let m = mul-le-mul f.is_in_range.few_states f.is_in_range.few_events in
      (opened_when (sheet_of d) _).1 (
        record {
          long = rw sheet_length (omega arith);
          marked = at_end d 3 (omega arith);
          is_in_range = rw (n, k, i) f.is_in_range;
          distance = rw (n, k, low_byte d, high_byte d) (omega arith);
          size = rw (n, k) sheet_length;
        },
        rw (n, k, i),
      )
