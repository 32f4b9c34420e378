-- Laws of bytes that are put into an output: one after the other, a copied word, nothing, and all of a text that fits.
-- Assumes nothing.
use Prim.Native.Nat.{ℕ, suc, ◌+◌, ◌-◌, ◌≤◌, ◌<◌, min}
use mathlib.Core.Path.{◌≡◌, refl, sym, ◌∙◌}
use mathlib.Core.List.{List, [], ◌∷◌, ◌++◌, append_assoc, append-nil}
use native.Mathlib.Decide.{dec_le, dec_lt}
use native.Mathlib.Omega.{arith}
use lib.ListN.{length, take, drop, set, length-append, length-set, length-drop, take-append-drop, drop_of_length-le}
use lib.Seq.{length-sets, sets-eq, set_out, take-nil, take_all, take-suc-set, drop-set-lt, drop-cons}
use Rattle.octets.specs.Copies.{copied}
use Rattle.octets.proofs.ListLaws.{tail_part}
use Rattle.printed.specs.Placing.{last_place, laid, Put}

-- bytes past the end are not stored
laid_past : (bytes out : List ℕ) (at : ℕ) → length out ≤ at → laid out at bytes ≡ out
unfolding laid
laid_past [] out at h = refl
laid_past (b ∷ bytes) out at h = rw (set_out out at b h) (laid_past bytes out (suc at) (omega arith))

-- some bytes, and then more from the place after them on
laid_then : (a b out : List ℕ) (at n : ℕ) → n ≡ at + length a → laid (laid out at a) n b ≡ laid out at (a ++ b)
unfolding laid
laid_then [] b out at n e = let z : n ≡ at = omega arith in rw z
laid_then (x ∷ a) b out at n e = laid_then a b (set out at x) (suc at) n (omega arith)

-- the output keeps its length
pub put_length : {out bytes out' : List ℕ} {at next : ℕ} → Put out at bytes next out' → length out' ≡ length out
unfolding laid
put_length {out} {bytes} {out'} {at} p = rw p.output (length-sets out at bytes)

pub then : {out a b out₁ out₂ : List ℕ} {at next₁ next₂ : ℕ} → Put out at a next₁ out₁ → Put out₁ next₁ b next₂ out₂ → Put out at (a ++ b) next₂ out₂
then {out} {a} {b} {out₁} {out₂} {at} {next₁} p q =
    let n = put_length p in
    let s = p.short in
    record {
      short = s;
      place = rw (length-append a b) (omega (arith, p.place, q.place));
      output = q.output ∙ there (dec_le (at + length a) last_place) ∙ rw p.output (laid_then a b out at (at + length a) refl);
    }
  where
    there : Dec (at + length a ≤ last_place) → laid out₁ next₁ b ≡ laid out₁ (at + length a) b
    there (yes h) = let e : next₁ ≡ at + length a = omega (arith, p.place) in rw e
    there (no h) =
        let n = put_length p in
        let s = p.short in
        laid_past b out₁ next₁ (omega (arith, p.place)) ∙ sym (laid_past b out₁ (at + length a) (omega arith))

-- nothing
pub put_nothing : (out : List ℕ) (at : ℕ) → length out ≤ last_place → at ≤ last_place → Put out at [] at out
unfolding laid
put_nothing out at s h = record { short = s; place = omega arith; output = refl }

-- bytes in the output are those of a copy
laid_copy : (word out : List ℕ) (at : ℕ) → at ≤ length out → laid out at word ≡ take at out ++ copied word (drop at out)
unfolding laid copied
laid_copy [] out at h = rw (take-nil, take-append-drop)
laid_copy (b ∷ word) out at h =
    elim (dec_lt at (length out)) [
      | yes l ↦
          laid_copy word (set out at b) (suc at) (rw length-set l)
          ∙ rw (take-suc-set out at b l, drop-set-lt (suc at) out at b (omega arith), drop-cons out at 0 l, append_assoc)
      | no l ↦
          laid_past (b ∷ word) out at (omega arith)
          ∙ rw (take_all at out (omega arith), drop_of_length-le out {i = at} (omega arith)) (sym (append-nil out))
    ]

-- a word past the output's end, and one that is copied to the front of the rest, which was lent
module _ (out word : List ℕ) (at : ℕ) {next : ℕ} (s : length out ≤ last_place) (e : next ≡ min (at + length word) last_place) where
  pub put_past : length out < at → Put out at word next out
  put_past h = record { short = s; place = e; output = sym (laid_past word out at (omega arith)) }

  pub put_copy : {part : List ℕ} → at ≤ length out → part ≡ copied word (take (length out - at) (drop at out))
      → Put out at word next (take at out ++ (part ++ drop (length out - at) (drop at out)))
  put_copy h q =
      record {
        short = s;
        place = e;
        output =
            rw (q, tail_part at out, drop_of_length-le (drop at out) {i = length out - at} (rw length-drop (omega arith)), append-nil)
            (sym (laid_copy word out at h));
      }

-- at the last place any bytes are as good as others
pub put_last : {out a out' : List ℕ} {at next : ℕ} (b : List ℕ) → at ≡ last_place → Put out at a next out' → Put out at b next out'
put_last {out} {a} {out'} {at} b e p =
    let s = p.short in
    record { short = s; place = omega (arith, p.place); output = p.output ∙ laid_past a out at (omega arith) ∙ sym (laid_past b out at (omega arith)) }

-- all of a text that fits stands at the front, and an output of no bytes measures it
module _ {out bytes out' : List ℕ} {next : ℕ} (p : Put out 0 bytes next out') where
  pub put_size : length bytes ≤ last_place → next ≡ length bytes
  put_size h = omega (arith, p.place)

  pub put_all : length bytes ≤ length out → out' ≡ bytes ++ drop (length bytes) out
  unfolding laid
  put_all h = let z : 0 + length bytes ≡ length bytes = omega arith in p.output ∙ sets-eq bytes out 0 (omega arith) ∙ rw z

  pub put_none : length out ≡ 0 → out' ≡ out
  put_none z = p.output ∙ laid_past bytes out 0 (omega arith)
