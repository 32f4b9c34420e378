-- Laws of reading: what looking at a file comes to, return by return.
-- Assumes nothing.
use mathlib.Core.Path.{◌≡◌, sym, ap, ◌∙◌}
use mathlib.Core.List.{List, ◌++◌}
use mathlib.Core.Bool.{Bool, true, false}
use Prim.Native.Nat.{ℕ, ◌-◌, ◌*◌, ◌/◌, ◌≤◌}
use native.Mathlib.Omega.{arith}
use lib.ListN.{length, take, drop, replicate}
use Rattle.octets.specs.Copies.{copied}
use Rattle.octets.proofs.ListLaws.{tail_part, part_length}
use Rattle.rule.specs.Drawing.{body, no_pair, padded, rule_of}
use Rattle.rule.specs.Refusals.{first_of, conditions}
use Rattle.rule.proofs.RefusalLaws.{first_hit, first_more, append_hit, append_more}
use Rattle.rule.specs.declared.Pair.{Pair}
use Rattle.rule.specs.declared.Refusal.{Refusal}
use Rattle.rule.specs.declared.Refusal.TheVariants.{Frame}
use Rattle.trailer.specs.Layout.{table_back}
use Rattle.trailer.specs.Conditions.{framed, frame, head_conditions}
use Rattle.trailer.specs.declared.Trailer.{Trailer}
use Rattle.trailer.proofs.SoundLaws.{framed_says, Headed, Placed, headed_sound, cells_in}
use Rattle.trailer.specs.Layout.{trailer_of, trailer_in}
use Rattle.rulefile.specs.Layout.{pair_in, pair_bytes, up_to, drawing_in}
use Rattle.rulefile.specs.Reading.{verdict_on, verdict_in, parts_of, reading_of}
use Rattle.rulefile.specs.declared.Contents.{Contents}
use Rattle.checks.specs.Checked.{checked_of}
use Rattle.checks.proofs.CheckLaws.{conditions_note}
use Rattle.checks.proofs.HeldLaws.{is_in_range}
use Rattle.rulefile.proofs.ListLaws.{length_up_to, take_padded, copied_padded}
use Rattle.rulefile.proofs.PartsLaws.{sound_parts, parts_verdict, parts_sound, table_order, table_inside, note_taken}
use Rattle.rule.specs.Verdict.{Verdict}
use Rattle.std.specs.Prelude.{Ok, Err}

-- the length of a part that is given by two distances from the end
gap : (len far near : ℕ) → near ≤ far → far ≤ len → len - near - (len - far) ≡ far - near
gap len far near h k = omega arith

-- the parts of a file that its trailer's own distances cut off

abbrev table_by : List ℕ → Trailer → List ℕ
table_by f t = take (length f - t.pairsback - (length f - t.tableback)) (drop (length f - t.tableback) f)

abbrev pair_bytes_by : List ℕ → Trailer → List ℕ
pair_bytes_by f t = take (length f - 12 - (length f - t.pairsback)) (drop (length f - t.pairsback) f)

abbrev pairs_by : List ℕ → Trailer → List Pair
pairs_by f t = padded 8 no_pair (up_to (pair_in (pair_bytes_by f t)) (length (pair_bytes_by f t) / 16))

-- the distances of a trailer that was found right
record Cut (t : Trailer) (size : ℕ) : Type 0 where
  pub trailer_in_file : 12 ≤ t.pairsback
  pub pairs_in : t.pairsback ≤ t.tableback
  pub table_in : t.tableback ≤ size
  pub pair_bytes_count : t.pairsback - 12 ≡ 16 * t.shape.pairs
  pub cells : t.tableback - t.pairsback ≡ t.shape.states * t.shape.events

cut : (t : Trailer) (size : ℕ) → Placed t size → Cut t size
cut t size h =
    let p = h.pairs_is in
    let e = h.table_is in
    let w = h.within in
    record {
      trailer_in_file = omega arith;
      pairs_in = omega arith;
      table_in = omega arith;
      pair_bytes_count = omega arith;
      cells = omega arith;
    }

module _ (f : List ℕ) (t : Trailer) (h : Placed t (length f)) where
  table_cut : table_by f t ≡ take (t.shape.states * t.shape.events) (drop (length f - table_back t.shape) f)
  table_cut =
      let z = cut t (length f) h in
      rw (gap (length f) t.tableback t.pairsback z.pairs_in z.table_in, z.cells, h.table_is)

  pairs_long : length (pair_bytes_by f t) ≡ 16 * t.shape.pairs
  pairs_long =
      let z = cut t (length f) h in
      part_length (length f - t.pairsback) (length f - 12) f (omega arith)
      ∙ gap (length f) t.pairsback 12 z.trailer_in_file (omega arith)
      ∙ z.pair_bytes_count

  pairs_cut : pairs_by f t ≡ padded 8 no_pair (up_to (pair_in (pair_bytes t.shape f)) t.shape.pairs)
  pairs_cut =
      let z = cut t (length f) h in
      let m : length (pair_bytes_by f t) / 16 ≡ t.shape.pairs = omega (arith, pairs_long) in
      rw (m, gap (length f) t.pairsback 12 z.trailer_in_file (omega arith), z.pair_bytes_count, h.pairs_is)

-- what a refused file comes to
pub parts_refused : (f : List ℕ) {r : Refusal} → verdict_on f ≡ Err r → Err r ≡ parts_of f
unfolding parts_of
parts_refused f v = rw v

-- 1
pub frame_wrong : (f : List ℕ) {ok : Bool} → ok ≡ framed f → ok ≡ false → Err Frame ≡ parts_of f
unfolding verdict_on
frame_wrong f {ok} is h = parts_refused f (first_hit (frame f) _ Frame (rw (← is, h)))

module _ (f : List ℕ) {ok : Bool} (is : ok ≡ framed f) (right : ok ≡ true) where
  pub frame_long : 12 ≤ length f
  frame_long = ((framed_says f).0 (sym is ∙ right)).long

-- the trailer that was looked at
trailer_is : (f : List ℕ) {t : Trailer} → t ≡ trailer_of (take (length f - (length f - 12)) (drop (length f - 12) f)) → t ≡ trailer_in f
trailer_is f e = e ∙ ap trailer_of (tail_part (length f - 12) f)

module _ (f : List ℕ) {ok : Bool} (is : ok ≡ framed f) (right : ok ≡ true)
    {t : Trailer} (looked-at : t ≡ trailer_of (take (length f - (length f - 12)) (drop (length f - 12) f)))
    {v : Verdict} (head : v ≡ first_of (head_conditions t (length f))) where
  past_frame : verdict_on f ≡ first_of (head_conditions t (length f) ++ conditions (drawing_in f))
  unfolding verdict_on
  past_frame = rw (trailer_is f looked-at) (first_more (frame f) _ (rw (← is, right)))

  -- 2 to 4
  pub head_wrong : {r : Refusal} → v ≡ Err r → Err r ≡ parts_of f
  head_wrong {r} e = parts_refused f (past_frame ∙ append_hit (head_conditions t (length f)) (conditions (drawing_in f)) r (sym head ∙ e))

  -- 5 to 9
  module _ (sound : v ≡ Ok tt) where
    past_head : verdict_on f ≡ first_of (conditions (drawing_in f))
    past_head = past_frame ∙ append_more (head_conditions t (length f)) (conditions (drawing_in f)) (sym head ∙ sound)

    headed : Headed t (length f)
    headed = headed_sound t (length f) (sym head ∙ sound)

    distances : Cut t (length f)
    distances = cut t (length f) headed.placed

    -- table, pairs and trailer stand one after the other
    pub table_in_file : t.tableback ≤ length f
    table_in_file = distances.table_in

    pub pairs_in_file : t.pairsback ≤ length f
    pairs_in_file = omega (arith, distances.pairs_in, distances.table_in)

    pub table_before_pairs : length f - t.tableback ≤ length f - t.pairsback
    table_before_pairs = order (length f) t.tableback t.pairsback distances.pairs_in
      where
        order : (n a b : ℕ) → b ≤ a → n - a ≤ n - b
        order n a b l = omega arith

    pub pairs_before_trailer : length f - t.pairsback ≤ length f - 12
    pairs_before_trailer = omega (arith, distances.trailer_in_file)

    pub pairs_few : length (pair_bytes_by f t) ≤ 128
    pairs_few = omega (arith, pairs_long f t headed.placed, headed.ranged.few_pairs)

    -- the checks of what was cut off are those of what is drawn
    body_conditions : conditions (body t.shape (table_by f t) (pairs_by f t)) ≡ conditions (drawing_in f)
    unfolding drawing_in
    body_conditions =
        let h = headed.placed in
        let m = t.shape.pairs in
        let ps = up_to (pair_in (pair_bytes t.shape f)) m in
        rw (table_cut f t h, pairs_cut f t h, take_padded 8 no_pair ps m (length_up_to _ m), ← trailer_is f looked-at)
        (sym (conditions_note t.shape _ _ ps))

    module _ {ps : List Pair} (cut_off : ps ≡ pairs_by f t) {w : Verdict} (checked : w ≡ checked_of (body t.shape (table_by f t) ps)) where
      told : w ≡ verdict_on f
      told =
          let g = headed.ranged in
          checked
          ∙ is_in_range (body t.shape (table_by f t) ps) g.numbers.few_states g.some_pairs g.few_pairs
          ∙ rw cut_off (ap first_of body_conditions)
          ∙ sym past_head

      pub body_wrong : {r : Refusal} → w ≡ Err r → Err r ≡ parts_of f
      body_wrong e = parts_refused f (sym told ∙ e)

      pub body_right : w ≡ Ok tt
          → Ok (record { shape = t.shape; start = length f - t.tableback; end = length f - t.pairsback; pairs = ps }) ≡ parts_of f
      unfolding parts_of drawing_in
      body_right e =
          let h = headed.placed in
          rw (← told, e, ← trailer_is f looked-at, cut_off, pairs_cut f t h, h.table_is, h.pairs_is)

pub ruleset cuts = (frame_wrong, frame_long, table_in_file, pairs_in_file, table_before_pairs, pairs_before_trailer, pairs_few, body_right)

-- reading

pub read_refused : (f : List ℕ) {r : Refusal} → Err r ≡ parts_of f → Err r ≡ reading_of f
unfolding reading_of
read_refused f e = let q = sym (parts_verdict f) ∙ ap verdict_in (sym e) in rw q

pub read_sound : (f : List ℕ) {p : Contents} {note table : List ℕ} → Ok p ≡ parts_of f
    → note ≡ copied (take p.start f) (replicate 1024 0)
    → table ≡ copied (take (p.end - p.start) (drop p.start f)) (replicate 2048 0)
    → Ok (record { shape = p.shape; length = p.start; note = note; table = table; pairs = p.pairs }) ≡ reading_of f
unfolding reading_of rule_of
read_sound f {p} e note table =
    let s = sound_parts f e in
    let c = cells_in s.ranged in
    let n = note ∙ ap (λ (l : List ℕ). copied l (replicate 1024 0)) s.note_is ∙ copied_padded 1024 (drawing_in f).note (rw s.note_long s.note_in) in
    let t = table ∙ ap (λ (l : List ℕ). copied l (replicate 2048 0)) s.table_is ∙ copied_padded 2048 (drawing_in f).table (rw s.table_long c) in
    rw (parts_sound f e, n, t, s.drawn, s.pairs_padded, s.note_long)

pub ruleset read_parts = (table_order, table_inside, note_taken, read_refused)
