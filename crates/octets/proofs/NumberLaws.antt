-- Laws of little-endian numbers, over the width.
-- Assumes nothing.
use mathlib.Core.Path.{◌≡◌, refl, sym, ap, subst⁻¹, ◌∙◌}
use mathlib.Core.List.{List, [], ◌∷◌, ◌++◌, append_assoc, append-nil}
use Prim.Native.Nat.{ℕ, zero, suc, ◌+◌, ◌-◌, ◌*◌, ◌/◌, ◌%◌, ◌^◌, ◌≤◌, ◌<◌}
use native.Mathlib.Nat.{pow-suc, pow-le-pow_right, lt_of_lt_of_le, div-lt_iff_lt-mul}
use native.Mathlib.Omega.{arith}
use lib.Arith.{digits_lt}
use lib.Dec.{lit<}
use lib.ListN.{length, get_or, take, drop, set, replicate, length-append, length-take, length-drop, length-set, drop_of_length-le}
use lib.Seq.{drop-cons, get_or-drop, length-take-le, take_all}
use mir.Val.{Fits}
use mir.Syntax.{w64}
use Rattle.std.proofs.lemmas.Grind.{take-set_at}
use Rattle.std.proofs.lemmas.List.{drop-replicate}
use Rattle.std.specs.Int.{from_le_bytes}
use Rattle.octets.specs.Copies.{copied}
use Rattle.octets.specs.Numbers.{Bytes, value_of, digits}

-- parts of bytes are bytes
pub bytes_drop : (n : ℕ) (l : List ℕ) → Bytes l → Bytes (drop n l)
bytes_drop n l h i = rw get_or-drop (h (n + i))

pub bytes_take : (n : ℕ) (l : List ℕ) → Bytes l → Bytes (take n l)
bytes_take zero l h i = lit< tt
bytes_take (suc n) [] h i = lit< tt
bytes_take (suc n) (x ∷ l) h zero = h zero
bytes_take (suc n) (x ∷ l) h (suc i) = bytes_take n l (λ j. h (suc j)) i

-- one byte more, in front of the lower end
pub byte_more : (k x b : ℕ) → x < 256 ^ k → b < 256 → x * 256 + b < 256 ^ suc k
byte_more k x b h hb = subst⁻¹ (λ (n : ℕ). x * 256 + b < n) (pow-suc 256 k) (digits_lt h hb)

-- seven bytes and one more fit 64 bits
pub byte_more_fits : (k x b : ℕ) → k < 8 → x < 256 ^ k → b < 256 → Fits w64 (x * 256 + b)
byte_more_fits k x b hk h hb =
    record { fits = lt_of_lt_of_le (byte_more k x b h hb) (pow-le-pow_right {n = 256} (lit< tt) hk) }

-- the number that a list is from i on
pub value_of_drop : (l : List ℕ) (i : ℕ) → i < length l → value_of (drop i l) ≡ value_of (drop (suc i) l) * 256 + get_or l i 0
unfolding value_of
value_of_drop l i h = ap value_of (drop-cons l i 0 h) ∙ omega arith

-- zeros at the higher end add nothing
value_of_padded : (l : List ℕ) (n : ℕ) → value_of (l ++ replicate n 0) ≡ value_of l
unfolding value_of
value_of_padded [] zero = refl
value_of_padded [] (suc n) = rw (value_of_padded [] n)
value_of_padded (b ∷ l) n = rw (value_of_padded l n)

-- what the library reads of eight bytes
value_of_eight : (l : List ℕ) → length l ≡ 8 → from_le_bytes w64 l ≡ value_of l
unfolding value_of
value_of_eight l h =
    let at = value_of_drop l in
    let end : value_of (drop 8 l) ≡ 0 = ap value_of (drop_of_length-le l {i = 8} (omega arith)) in
    omega (
      arith,
      end,
      at 0 (omega arith),
      at 1 (omega arith),
      at 2 (omega arith),
      at 3 (omega arith),
      at 4 (omega arith),
      at 5 (omega arith),
      at 6 (omega arith),
      at 7 (omega arith),
    )

-- and of eight zeros over which a list was copied
pub value_of_copied : (l : List ℕ) → from_le_bytes w64 (copied l (replicate 8 0)) ≡ value_of (take 8 l)
unfolding copied
value_of_copied l =
    value_of_eight (copied l (replicate 8 0)) (simp (length-append, length-take, length-drop) (omega arith))
    ∙ rw drop-replicate (value_of_padded (take 8 l) (8 - length l))

-- a part of eight bytes or fewer is looked at whole
pub value_of_part : (k : ℕ) (l : List ℕ) → k ≤ 8 → value_of (take 8 (take k l)) ≡ value_of (take k l)
value_of_part k l h = ap value_of (take_all 8 (take k l) (rw length-take (omega arith)))

pub length_digits : (width x : ℕ) → length (digits width x) ≡ width
unfolding digits
length_digits zero x = refl
length_digits (suc width) x = ap suc (length_digits width (x / 256))

-- so many bytes are less than that power of 256
pub value_of_lt : (l : List ℕ) → Bytes l → value_of l < 256 ^ length l
unfolding value_of
value_of_lt [] h = lit< tt
value_of_lt (b ∷ l) h =
    let e : b + 256 * value_of l ≡ value_of l * 256 + b = omega arith in
    rw e (byte_more (length l) (value_of l) b (value_of_lt l (λ j. h (suc j))) (h zero))

-- a number, written and read back
pub value_of_digits : (width x : ℕ) → x < 256 ^ width → value_of (digits width x) ≡ x
unfolding digits value_of
value_of_digits zero x h = sym (below_one x h)
  where
    below_one : (x : ℕ) → x < 256 ^ zero → x ≡ 0
    below_one x h = omega arith
value_of_digits (suc width) x h =
    let q : x / 256 < 256 ^ width = (div-lt_iff_lt-mul (lit< tt)).1 (rw pow-suc at h) in
    rw (value_of_digits width (x / 256) q) (omega arith)

-- bytes, read and written back
pub digits_value_of : (l : List ℕ) → Bytes l → digits (length l) (value_of l) ≡ l
unfolding digits value_of
digits_value_of [] h = refl
digits_value_of (x ∷ l) h =
    let b = h zero in
    let m : (x + 256 * value_of l) % 256 ≡ x = omega arith in
    let d : (x + 256 * value_of l) / 256 ≡ value_of l = omega arith in
    rw (m, d, digits_value_of l (λ j. h (suc j)))

-- so many bytes from a on, read and written back
pub part_back : (width a : ℕ) (l : List ℕ) → a + width ≤ length l → Bytes l
    → digits width (value_of (take width (drop a l))) ≡ take width (drop a l)
part_back width a l h b =
    let t = take width (drop a l) in
    let n : length t ≡ width = length-take-le width (drop a l) (rw length-drop (omega arith)) in
    ap (λ (k : ℕ). digits k (value_of t)) (sym n) ∙ digits_value_of t (bytes_take width (drop a l) (bytes_drop a l b))

-- x without so many of its lowest bytes
pub without : ℕ → ℕ → ℕ
without zero x = x
without (suc width) x = without width (x / 256)

pub without_zero : (x : ℕ) → without zero x ≡ x
unfolding without
without_zero x = refl

pub without_suc : (width x : ℕ) → without (suc width) x ≡ without width x / 256
unfolding without
without_suc zero x = refl
without_suc (suc width) x = without_suc width (x / 256)

-- one digit more, at the end
pub digits_more : (width x : ℕ) → digits (suc width) x ≡ digits width x ++ (without width x % 256 ∷ [])
unfolding digits without
digits_more zero x = refl
digits_more (suc width) x = ap (λ l. (x % 256) ∷ l) (digits_more width (x / 256))

-- the first i bytes of o are stored, and x is what is left of the number for those from i on, which all come to z
module _ (o : List ℕ) (i x : ℕ) (z : List ℕ) (is : take i o ++ digits (length o - i) x ≡ z) where
  -- one byte more
  pub digits_kept : i < length o → take (i + 1) (set o i (x % 256)) ++ digits (length (set o i (x % 256)) - (i + 1)) (x / 256) ≡ z
  unfolding digits
  digits_kept h =
      let k : length o - i ≡ suc (length o - (i + 1)) = omega arith in
      rw (length-set, take-set_at o i (i + 1) (x % 256) refl h, append_assoc) (rw k at is)

  -- all of them
  pub digits_all : length o ≤ i → o ≡ z
  unfolding digits
  digits_all h =
      let k : length o - i ≡ 0 = omega arith in
      sym (rw (take_all i o h) (append-nil o)) ∙ rw k at is
