-- Arrays that are filled from the front.
-- Assumes nothing.
use Rattle.std.specs.Prelude.{ℕ, zero, suc, List, set}

-- an array with f i at each place i below n; nothing is put past its end
unfoldable pub filled : {A : Type 0} → (ℕ → A) → List A → ℕ → List A
filled f l zero = l
filled f l (suc n) = set (filled f l n) n (f n)
