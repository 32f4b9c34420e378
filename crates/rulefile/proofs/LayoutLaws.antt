-- Laws of the layout: the sizes of what is written, and that only the used pairs are.
-- Assumes nothing.
use mathlib.Core.Path.{◌≡◌, sym, ap, ◌∙◌}
use mathlib.Core.List.{List}
use Prim.Native.Nat.{ℕ, ◌*◌}
use lib.ListN.{length, get_or, take, length-append}
use lib.Seq.{get_or-take}
use Rattle.octets.specs.Copies.{copied}
use Rattle.octets.specs.Numbers.{digits}
use Rattle.octets.proofs.CopyLaws.{copied_full}
use Rattle.octets.proofs.NumberLaws.{length_digits}
use Rattle.rule.specs.Drawing.{no_pair}
use Rattle.rule.specs.declared.Pair.{Pair}
use Rattle.rule.specs.declared.Shape.{Shape}
use Rattle.trailer.specs.Layout.{trailer_out}
use Rattle.trailer.proofs.LayoutLaws.{length_trailer_out}
use Rattle.rulefile.specs.Layout.{pair_out, pairs_out}
use Rattle.rulefile.proofs.ListLaws.{length_flat_up_to, flat_ext}

pub length_pair_out : (p : Pair) → length (pair_out p) ≡ 16
length_pair_out p = length-append (digits 8 p.r) (digits 8 p.p) ∙ rw (length_digits, length_digits)

pub length_pairs_out : (ps : List Pair) (m : ℕ) → length (pairs_out ps m) ≡ 16 * m
length_pairs_out ps m = length_flat_up_to 16 (λ i. pair_out (get_or ps i no_pair)) m (λ i. length_pair_out (get_or ps i no_pair))

-- of a list of pairs only the first m are written
pub pairs_out_take : (ps : List Pair) (m : ℕ) → pairs_out (take m ps) m ≡ pairs_out ps m
pairs_out_take ps m = flat_ext _ _ m (λ i h. ap pair_out (get_or-take m ps i no_pair h))

-- the trailer of a shape fills twelve bytes
pub trailer_put : (s : Shape) (out : List ℕ) → length out ≡ 12 → copied (trailer_out s) out ≡ trailer_out s
trailer_put s out e = copied_full (trailer_out s) out (length_trailer_out s ∙ sym e)
