-- Laws of what writers put: one after the other, nothing, a word past the output's end, a word that is copied.
-- Assumes nothing.
use Prim.Native.Nat.{ℕ, ◌≤◌}
use mathlib.Core.Path.{◌≡◌, refl, ◌∙◌}
use mathlib.Core.List.{List, [], ◌++◌}
use lib.ListN.{length}
use Rattle.printed.specs.Placing.{last_place}
use Rattle.printed.specs.Writing.{Puts}
use Rattle.printed.specs.declared.text.Text.{Text}
use Rattle.printed.proofs.PlacingLaws.{then, put_nothing, put_last}

pub puts_then : {r s t : Text} {a b : List ℕ} → Puts r s a → Puts s t b → Puts r t (a ++ b)
puts_then p q = record { same = q.same ∙ p.same; put = then p.put q.put }

pub puts_nothing : (t : Text) → length t.out.now ≤ last_place → t.at ≤ last_place → Puts t t []
puts_nothing t s h = record { same = refl; put = put_nothing t.out.now t.at s h }

-- at the last place any bytes are as good as others
pub puts_last : {r s : Text} {a : List ℕ} (b : List ℕ) → r.at ≡ last_place → Puts r s a → Puts r s b
puts_last b e p = record { same = p.same; put = put_last b e p.put }
