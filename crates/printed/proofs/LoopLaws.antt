-- What a loop of writers puts: the bytes f 0, f 1, .. one after the other.
-- Assumes nothing.
use Prim.Native.Nat.{ℕ, ◌+◌, ◌≤◌}
use mathlib.Core.Path.{◌≡◌}
use mathlib.Core.List.{List, [], append-nil}
use native.Mathlib.Omega.{arith}
use native.Mathlib.Numerals.{add-one}
use lib.ListN.{length}
use Rattle.rulefile.specs.Layout.{flat_up_to}
use Rattle.printed.specs.Placing.{last_place}
use Rattle.printed.specs.Writing.{Puts}
use Rattle.printed.specs.declared.text.Text.{Text}
use Rattle.printed.proofs.WritingLaws.{puts_then, puts_nothing}

-- the loop's steps: nothing yet, the next, one with no bytes, all
module _ (f : ℕ → List ℕ) (r : Text) where
  pub flat_none : length r.out.now ≤ last_place → r.at ≤ last_place → Puts r r (flat_up_to f 0)
  unfolding flat_up_to
  flat_none s h = puts_nothing r s h

  module _ {s : Text} {i : ℕ} (p : Puts r s (flat_up_to f i)) where
    pub flat_more : {t : Text} → Puts s t (f i) → Puts r t (flat_up_to f (i + 1))
    unfolding flat_up_to
    flat_more q = rw add-one (puts_then p q)

    pub flat_skip : f i ≡ [] → Puts r s (flat_up_to f (i + 1))
    unfolding flat_up_to
    flat_skip e = rw (add-one, e, append-nil) p

    pub flat_all : (n : ℕ) → i ≤ n → n ≤ i → Puts r s (flat_up_to f n)
    flat_all n a b = let e : n ≡ i = omega arith in rw e p
