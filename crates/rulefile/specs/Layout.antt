-- The layout of a rule file: the note, the table, the pairs, and the trailer of twelve bytes, which points back.
-- Assumes nothing.
use Rattle.std.specs.Prelude.{ℕ, zero, suc, ◌+◌, ◌-◌, ◌*◌, List, [], ◌∷◌, ◌++◌, length, get_or, take, drop}
use Rattle.octets.specs.Numbers.{value_of, digits}
use Rattle.rule.specs.Drawing.{Drawing, count, no_pair}
use Rattle.rule.specs.declared.Pair.{Pair}
use Rattle.rule.specs.declared.Shape.{Shape}
use Rattle.trailer.specs.Layout.{pair_size, pairs_back, table_back, trailer_in, trailer_out}

-- f 0, f 1, .., so many of them
unfoldable pub up_to : {A : Type 0} → (ℕ → A) → ℕ → List A
up_to f zero = []
up_to f (suc n) = up_to f n ++ (f n ∷ [])

-- pair i of some bytes, R then P, eight bytes each
abbrev pub pair_in : List ℕ → ℕ → Pair
pair_in bytes i = record { r = value_of (take 8 (drop (pair_size * i) bytes)); p = value_of (take 8 (drop (pair_size * i + 8) bytes)) }

-- the bytes of a file that its shape says are the pairs
abbrev pub pair_bytes : Shape → List ℕ → List ℕ
pair_bytes s f = take (pair_size * s.pairs) (drop (length f - pairs_back s) f)

-- what is drawn in a file: the parts that its trailer's shape says it has
unfoldable pub drawing_in : List ℕ → Drawing
drawing_in f =
    let s = (trailer_in f).shape in
    record {
      shape = s;
      note = take (length f - table_back s) f;
      table = take (s.states * s.events) (drop (length f - table_back s) f);
      pairs = up_to (pair_in (pair_bytes s f)) s.pairs;
    }

-- the lists f 0, f 1, .., so many of them, one after the other
unfoldable pub flat_up_to : {A : Type 0} → (ℕ → List A) → ℕ → List A
flat_up_to f zero = []
flat_up_to f (suc n) = flat_up_to f n ++ f n

-- the sixteen bytes of a pair
abbrev pub pair_out : Pair → List ℕ
pair_out p = digits 8 p.r ++ digits 8 p.p

-- the first m pairs of a list in bytes
abbrev pub pairs_out : List Pair → ℕ → List ℕ
pairs_out ps m = flat_up_to (λ i. pair_out (get_or ps i no_pair)) m

-- the file of a drawing
unfoldable pub file_of : Drawing → List ℕ
file_of d = d.note ++ (d.table ++ (pairs_out d.pairs (count d) ++ trailer_out d.shape))
