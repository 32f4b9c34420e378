-- Sound drawings and their files: the file of a sound drawing is sound and has that drawing, and a sound file is the file of its drawing.
-- Assumes nothing.
use Prim.Native.Nat.{ℕ, ◌+◌, ◌-◌, ◌*◌, ◌^◌, ◌≤◌, ◌<◌}
use native.Mathlib.Omega.{arith}
use native.Mathlib.Nat.{pow-le-pow_right, lt_of_lt_of_le}
use mathlib.Core.Path.{◌≡◌, refl, sym, ap, ◌∙◌}
use mathlib.Core.Bool.{true}
use mathlib.Core.List.{List, [], ◌∷◌, ◌++◌, append_assoc}
use lib.ListN.{length, get_or, take, drop, length-append, length-drop, take-append-drop, drop_of_length-le}
use lib.Seq.{take_at, drop_at, take-add, take_all, drop-cons, drop-drop, get_or-drop, length-take-le}
use lib.Dec.{lit<}
use borrow.Author.Tests.{le-leb, eq-eqb}
use Rattle.octets.specs.Numbers.{Bytes, value_of, digits}
use Rattle.octets.proofs.NumberLaws.{bytes_take, bytes_drop, part_back, length_digits, value_of_digits}
use Rattle.rule.specs.Drawing.{Drawing, states, events, count, no_pair, rule_of}
use Rattle.rule.specs.Refusals.{first_of}
use Rattle.rule.specs.WellDrawn.{WellDrawn}
use Rattle.rule.specs.declared.Pair.{Pair}
use Rattle.rule.specs.declared.Shape.{Shape}
use Rattle.rule.proofs.ClassLaws.{well_drawn}
use Rattle.trailer.specs.Layout.{pairs_back, table_back}
use Rattle.trailer.specs.Conditions.{framed, placed}
use Rattle.trailer.proofs.SoundLaws.{classed_says, ranged_says, cells_in}
use Rattle.trailer.specs.Layout.{trailer_of, trailer_in, trailer_out}
use Rattle.rulefile.specs.Layout.{up_to, pair_in, pair_bytes, drawing_in, pair_out, pairs_out, file_of}
use Rattle.rulefile.specs.Reading.{verdict_on, reading_of}
use Rattle.rulefile.proofs.ListLaws.{get_d_up_to, flat_ext}
use Rattle.rulefile.proofs.CutLaws.{drop_end, part_on, part_on_back, up_to_take, flat_take, flat_at}
use Rattle.trailer.proofs.LayoutLaws.{length_trailer_out}
use Rattle.rulefile.proofs.LayoutLaws.{length_pair_out, length_pairs_out}
use Rattle.rulefile.proofs.PartsLaws.{SoundFile}
use Rattle.rulefile.proofs.DrawnLaws.{SoundDrawing}
use Rattle.std.specs.Prelude.{Ok}

-- written, then read

-- a number at the front of some bytes, and what follows it
number_read : (width x : ℕ) (l : List ℕ) → x < 256 ^ width → value_of (take width (digits width x ++ l)) ≡ x
number_read width x l h = rw (take_at (digits width x) l width (length_digits width x)) (value_of_digits width x h)

number_on : (width x : ℕ) (l : List ℕ) → drop width (digits width x ++ l) ≡ l
number_on width x l = drop_at (digits width x) l width (length_digits width x)

-- a pair, written and read back
pair_read : (ps : List Pair) (m i : ℕ) → i < m → (get_or ps i no_pair).r < 2 ^ 64 → (get_or ps i no_pair).p < 2 ^ 64
    → pair_in (pairs_out ps m) i ≡ get_or ps i no_pair
pair_read ps m i h a b =
    let q = get_or ps i no_pair in
    let d = flat_at 16 (λ j. pair_out (get_or ps j no_pair)) (λ j. length_pair_out (get_or ps j no_pair)) m i h in
    let l = digits 8 q.p ++ d.0 in
    let e : drop (16 * i) (pairs_out ps m) ≡ digits 8 q.r ++ l = d.1 ∙ append_assoc (digits 8 q.r) (digits 8 q.p) d.0 in
    rw (← drop-drop 8 (16 * i) (pairs_out ps m), e, number_read 8 q.r l a, number_on 8 q.r l, number_read 8 q.p d.0 b)

-- a trailer, written and read back
trailer_read : (s : Shape) → table_back s < 65536 → trailer_of (trailer_out s) ≡ record { shape = s; tableback = table_back s; pairsback = pairs_back s }
unfolding trailer_of trailer_out
trailer_read s h =
    let l = digits 2 (pairs_back s) ++ (72 ∷ 82 ∷ []) in
    rw (number_read 2 (table_back s) l h, number_on 2 (table_back s) l, number_read 2 (pairs_back s) (72 ∷ 82 ∷ []) (omega arith))

trailer_marks : (s : Shape) → (get_or (trailer_out s) 10 0 ≡ 72) × (get_or (trailer_out s) 11 0 ≡ 82)
unfolding trailer_out digits
trailer_marks s = (refl, refl)

-- the four parts of a sound drawing's file
module _ (d : Drawing) (s : SoundDrawing d) where
  abbrev C : List ℕ
  C = pairs_out d.pairs (count d)

  abbrev T : List ℕ
  T = trailer_out d.shape

  well : WellDrawn d
  well = well_drawn d s.pairs_whole (record { classed = s.class; ranged = s.range }) s.passes

  -- where they are cut
  first_cut : file_of d ≡ d.note ++ (d.table ++ (C ++ T))
  unfolding file_of
  first_cut = refl

  middle_cut : file_of d ≡ (d.note ++ d.table) ++ (C ++ T)
  unfolding file_of
  middle_cut = sym (append_assoc d.note d.table (C ++ T))

  last_cut : file_of d ≡ (d.note ++ (d.table ++ C)) ++ T
  unfolding file_of
  last_cut = sym (append_assoc d.note (d.table ++ C) T ∙ ap (λ (l : List ℕ). d.note ++ l) (append_assoc d.table C T))

  -- the distances from the end
  length_pairs_on : length (C ++ T) ≡ pairs_back d.shape
  length_pairs_on = length-append C T ∙ rw (length_pairs_out d.pairs (count d), length_trailer_out d.shape) (omega arith)

  length_table_on : length (d.table ++ (C ++ T)) ≡ table_back d.shape
  length_table_on = length-append d.table (C ++ T) ∙ rw (s.table_whole, length_pairs_on) (omega arith)

  -- the size of the file
  pub length_file : length (file_of d) ≡ length d.note + table_back d.shape
  length_file = ap length first_cut ∙ length-append d.note (d.table ++ (C ++ T)) ∙ rw length_table_on

  end_read : drop (length (file_of d) - 12) (file_of d) ≡ T
  end_read = rw last_cut (drop_end (d.note ++ (d.table ++ C)) T 12 (length_trailer_out d.shape))

  -- what its trailer says
  pub trailer_in_file : trailer_in (file_of d) ≡ record { shape = d.shape; tableback = table_back d.shape; pairsback = pairs_back d.shape }
  trailer_in_file =
      let k = cells_in s.range in
      let m = s.range.few_pairs in
      ap trailer_of end_read ∙ trailer_read d.shape (omega arith)

  note_read : take (length (file_of d) - table_back d.shape) (file_of d) ≡ d.note
  note_read =
      let e : length (file_of d) - table_back d.shape ≡ length d.note = rw length_file (omega arith) in
      rw (e, first_cut) (take_at d.note (d.table ++ (C ++ T)) _ refl)

  table_read : take (states d * events d) (drop (length (file_of d) - table_back d.shape) (file_of d)) ≡ d.table
  table_read =
      let e : drop (length (file_of d) - table_back d.shape) (file_of d) ≡ d.table ++ (C ++ T) = rw first_cut
      (drop_end d.note (d.table ++ (C ++ T)) _ length_table_on) in
      rw e (take_at d.table (C ++ T) _ s.table_whole)

  bytes_read : pair_bytes d.shape (file_of d) ≡ C
  bytes_read =
      let e : drop (length (file_of d) - pairs_back d.shape) (file_of d) ≡ C ++ T = rw middle_cut (drop_end (d.note ++ d.table) (C ++ T) _ length_pairs_on) in
      rw e (take_at C T _ (length_pairs_out d.pairs (count d)))

  pairs_read : up_to (pair_in C) (count d) ≡ d.pairs
  pairs_read =
      let wide = pow-le-pow_right {n = 2} (lit< tt) well.few_states in
      up_to_take (pair_in C) d.pairs no_pair (count d) (rw s.pairs_whole (omega arith))
      (λ i l. pair_read d.pairs (count d) i l (lt_of_lt_of_le (well.R_in i l) wide) (lt_of_lt_of_le (well.P_in i l) wide))
      ∙ take_all (count d) d.pairs (omega (arith, s.pairs_whole))

  -- the file has the drawing that it was made from
  pub drawing_read : drawing_in (file_of d) ≡ d
  unfolding drawing_in
  drawing_read = rw (trailer_in_file, note_read, table_read, bytes_read, pairs_read)

  -- and it passes the checks 1 and 4
  frame_passes : framed (file_of d) ≡ true
  unfolding framed
  frame_passes =
      let f = file_of d in
      let l = length_file in
      let k = cells_in s.range in
      let n = s.note_in in
      let m = s.range.few_pairs in
      let mark : (i : ℕ) → get_or f (length f - 12 + i) 0 ≡ get_or T i 0 = λ i. sym (get_or-drop (length f - 12) f i 0)
      ∙ ap (λ (t : List ℕ). get_or t i 0) end_read in
      let x : length f - 2 ≡ length f - 12 + 10 = omega arith in
      let y : length f - 1 ≡ length f - 12 + 11 = omega arith in
      let t = trailer_marks d.shape in
      rw (le-leb 12 (length f) (omega arith), le-leb (length f) 3212 (omega arith), x, y, mark 10, mark 11, t.0, t.1)

  place_passes : placed (trailer_in (file_of d)) (length (file_of d)) ≡ true
  unfolding placed
  place_passes =
      let t = table_back d.shape in
      let l = length_file in
      let n = s.note_in in
      rw (
        trailer_in_file,
        eq-eqb (pairs_back d.shape) (pairs_back d.shape) refl,
        eq-eqb t t refl,
        le-leb t (length (file_of d)) (omega arith),
        le-leb (length (file_of d) - t) 1024 (omega arith),
      )

  -- so it is sound
  pub file_sound : verdict_on (file_of d) ≡ Ok tt
  unfolding verdict_on first_of
  file_sound =
      let c = (classed_says d.shape).1 s.class in
      let g = (ranged_says d.shape).1 s.range in
      rw (frame_passes, place_passes, trailer_in_file, c, g, drawing_read) s.passes

  -- and reads as the rule by value that the drawing is
  pub file_read : reading_of (file_of d) ≡ Ok (rule_of d)
  unfolding reading_of
  file_read = rw (file_sound, drawing_read)

-- read, then written

-- sixteen bytes are those of the pair that they say
pair_back : (l : List ℕ) (i : ℕ) → 16 * i + 16 ≤ length l → Bytes l → pair_out (pair_in l i) ≡ take 16 (drop (16 * i) l)
pair_back l i h b =
    rw (part_back 8 (16 * i) l (omega arith) b, part_back 8 (16 * i + 8) l (omega arith) b, ← drop-drop 8 (16 * i) l)
    (sym (take-add 8 8 (drop (16 * i) l)))

pairs_out_in : (l : List ℕ) (m : ℕ) → length l ≡ 16 * m → Bytes l → pairs_out (up_to (pair_in l) m) m ≡ l
pairs_out_in l m e b =
    flat_ext (λ i. pair_out (get_or (up_to (pair_in l) m) i no_pair)) (λ i. take 16 (drop (16 * i) l)) m
    (λ i h. ap pair_out (get_d_up_to (pair_in l) m i no_pair h) ∙ pair_back l i (omega arith) b)
    ∙ flat_take 16 l m
    ∙ take_all (16 * m) l (omega arith)

-- twelve bytes are those of the trailer that they say
module _ (t : List ℕ) (long : length t ≡ 12) where
  marks_back : get_or t 10 0 ≡ 72 → get_or t 11 0 ≡ 82 → drop 10 t ≡ 72 ∷ 82 ∷ []
  marks_back m n =
      drop-cons t 10 0 (omega arith) ∙ rw (drop-cons t 11 0 (omega arith), drop_of_length-le t {i = 12} (omega arith), m, n)

  front_back : get_or t 0 0 ∷ get_or t 1 0 ∷ get_or t 2 0 ∷ get_or t 3 0 ∷ get_or t 4 0 ∷ get_or t 5 0 ∷ drop 6 t ≡ t
  front_back =
      rw (
        ← drop-cons t 5 0 (omega arith),
        ← drop-cons t 4 0 (omega arith),
        ← drop-cons t 3 0 (omega arith),
        ← drop-cons t 2 0 (omega arith),
        ← drop-cons t 1 0 (omega arith),
        ← drop-cons t 0 0 (omega arith),
      )

  trailer_back : Bytes t → (trailer_of t).tableback ≡ table_back (trailer_of t).shape → (trailer_of t).pairsback ≡ pairs_back (trailer_of t).shape
      → drop 10 t ≡ 72 ∷ 82 ∷ [] → trailer_out (trailer_of t).shape ≡ t
  unfolding trailer_of trailer_out
  trailer_back b x y m =
      rw (← x, ← y, ← m, part_back 2 6 t (omega arith) b, part_back 2 8 t (omega arith) b, part_on 2 8 t, part_on 2 6 t) front_back

-- a sound file of bytes is the file of its drawing
module _ (f : List ℕ) (b : Bytes f) (s : SoundFile f) where
  abbrev S : Shape
  S = (trailer_in f).shape

  end_back : trailer_out S ≡ drop (length f - 12) f
  end_back =
      let t = drop (length f - 12) f in
      let l = s.framed.long in
      let long : length t ≡ 12 = rw length-drop (omega arith) in
      let x : length f - 12 + 10 ≡ length f - 2 = omega arith in
      let y : length f - 12 + 11 ≡ length f - 1 = omega arith in
      trailer_back t long (bytes_drop (length f - 12) f b) s.placed.table_is s.placed.pairs_is
      (marks_back t long (rw (get_or-drop, x) s.framed.first_mark) (rw (get_or-drop, y) s.framed.last_mark))

  all_pairs_back : pairs_out (up_to (pair_in (pair_bytes S f)) S.pairs) S.pairs ≡ pair_bytes S f
  all_pairs_back =
      let w = s.placed.within in
      let a = length f - pairs_back S in
      pairs_out_in (pair_bytes S f) S.pairs (length-take-le _ (drop a f) (rw length-drop (omega arith)))
      (bytes_take (16 * S.pairs) (drop a f) (bytes_drop a f b))

  pub file_back : file_of (drawing_in f) ≡ f
  unfolding file_of drawing_in
  file_back =
      let w = s.placed.within in
      rw (all_pairs_back, end_back, part_on_back 12 (16 * S.pairs) f (omega arith), part_on_back (pairs_back S) (S.states * S.events) f w)
      (take-append-drop (length f - table_back S) f)
