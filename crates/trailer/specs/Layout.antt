-- The layout of the trailer, the last twelve bytes of a rule file, which point back.
-- Assumes nothing.
use Rattle.std.specs.Prelude.{ℕ, ◌+◌, ◌-◌, ◌*◌, List, [], ◌∷◌, ◌++◌, length, get_or, take, drop}
use Rattle.octets.specs.Numbers.{value_of, digits}
use Rattle.rule.specs.Drawing.{state_no}
use Rattle.rule.specs.declared.Shape.{Shape}
use Rattle.trailer.specs.declared.Trailer.{Trailer}

-- the bytes of the trailer, of a pair, and of the longest file
abbrev pub trailer_size : ℕ
trailer_size = 12

abbrev pub pair_size : ℕ
pair_size = 16

abbrev pub longest_file : ℕ
longest_file = 3212

-- the distances from the file's end back to the pairs and back to the table
abbrev pub pairs_back : Shape → ℕ
pairs_back s = trailer_size + pair_size * s.pairs

abbrev pub table_back : Shape → ℕ
table_back s = trailer_size + pair_size * s.pairs + s.states * s.events

-- what the twelve bytes of a trailer say
unfoldable pub trailer_of : List ℕ → Trailer
trailer_of t =
    record {
      shape =
          record {
            class = get_or t 0 0;
            states = get_or t 1 0;
            events = get_or t 2 0;
            pairs = get_or t 3 0;
            initial = state_no
                (get_or t 4 0);
            mode = get_or t 5 0;
          };
      tableback = value_of (take 2 (drop 6 t));
      pairsback = value_of (take 2 (drop 8 t));
    }

-- the trailer of a file
abbrev pub trailer_in : List ℕ → Trailer
trailer_in f = trailer_of (drop (length f - trailer_size) f)

-- the trailer that a shape has
unfoldable pub trailer_out : Shape → List ℕ
trailer_out s =
    (s.class ∷ s.states ∷ s.events ∷ s.pairs ∷ s.initial.0 ∷ s.mode ∷ [])
    ++ (digits 2 (table_back s) ++ (digits 2 (pairs_back s) ++ (72 ∷ 82 ∷ [])))
