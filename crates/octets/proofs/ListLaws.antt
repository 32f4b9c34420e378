-- Lists that are filled from the front, and parts of lists.
-- Assumes nothing.
use mathlib.Core.Path.{◌≡◌, sym, ◌∙◌}
use mathlib.Core.List.{List, [], ◌∷◌, ◌++◌, append_assoc, append-nil}
use Prim.Native.Nat.{ℕ, suc, ◌+◌, ◌-◌, ◌≤◌, ◌<◌}
use native.Mathlib.Omega.{arith}
use lib.ListN.{length, get_or, take, drop, set, length-append, length-take, length-drop, drop_of_length-le}
use lib.Seq.{set_at, take_all, drop-cons, append_snoc, take_at, drop_at, drop-drop}

-- the length of the part from a to e
pub part_length : {A : Type 0} (a e : ℕ) (l : List A) → e ≤ length l → length (take (e - a) (drop a l)) ≡ e - a
part_length a e l h = rw (length-take, length-drop) (omega arith)

-- the part from a to the end
pub tail_part : {A : Type 0} (a : ℕ) (l : List A) → take (length l - a) (drop a l) ≡ drop a l
tail_part a l = take_all (length l - a) (drop a l) (rw (length-drop a l) (omega arith))

-- w stands at the front of what was o
module _ {A : Type 0} where
  -- one element more
  pub store_more : (w o : List A) (i : ℕ) (v d : A) → length w ≡ i → i < length o
      → set (w ++ drop i o) i v ≡ (w ++ (v ∷ [])) ++ drop (suc i) o
  store_more w o i v d e h =
      rw (drop-cons o i d h) (set_at w (get_or o i d) (drop (suc i) o) v i e ∙ sym (append_snoc w v (drop (suc i) o)))

  -- a part more, s, that was lent from a on
  pub part_more : (w s o : List A) (a k : ℕ) → length w ≡ a → length s ≡ k
      → take a (w ++ drop a o) ++ (s ++ drop k (drop a (w ++ drop a o))) ≡ (w ++ s) ++ drop (a + k) o
  part_more w s o a k e f =
      rw (take_at w (drop a o) a e, drop_at w (drop a o) a e, drop-drop, append_assoc)

  -- the last part, s: nothing of o is left
  pub part_last : (w s o : List A) (a k : ℕ) → length w ≡ a → length o ≤ a + k
      → take a (w ++ drop a o) ++ (s ++ drop k (drop a (w ++ drop a o))) ≡ w ++ s
  part_last w s o a k e h =
      rw (take_at w (drop a o) a e, drop_at w (drop a o) a e, drop-drop, drop_of_length-le o h, append-nil)

  -- the whole rest was lent and filled with s
  pub part_rest : (w s t : List A) (a : ℕ) → length w ≡ a
      → take a (w ++ t) ++ (s ++ drop (length (w ++ t) - a) (drop a (w ++ t))) ≡ w ++ s
  part_rest w s t a e =
      let n : length t ≤ length (w ++ t) - a = rw (length-append w t, e) (omega arith) in
      rw (take_at w t a e, drop_at w t a e, drop_of_length-le t n, append-nil)
