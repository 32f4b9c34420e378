-- Reach computed: the marked rule A, and the greatest table that takes the greatest number of moves.
-- Assumes nothing.
use mathlib.Core.Path.{◌≡◌, refl}
use mathlib.Core.List.{List, [], ◌∷◌, ◌++◌}
use Prim.Native.Nat.{ℕ, zero, suc, ◌-◌, ◌^◌}
use lib.ListN.{replicate}
use Rattle.rule.specs.Sets.{has, insert, including}
use Rattle.rule.specs.Reach.{target, with_moves, moved_below, moved_set, spread, reached_within}

-- the table of rule A: three states, three events
A : List ℕ
A = 1 ∷ 2 ∷ 0 ∷ 2 ∷ 0 ∷ 2 ∷ 2 ∷ 2 ∷ 2 ∷ []

from_0 : reached_within A 3 3 0 2 ≡ 7
unfolding reached_within spread moved_set moved_below with_moves target including insert has A
from_0 = refl

from_2 : reached_within A 3 3 2 2 ≡ 4
unfolding reached_within spread moved_set moved_below with_moves target including insert has A
from_2 = refl

-- zero moves count
no_moves : reached_within A 3 3 2 0 ≡ 4
unfolding reached_within spread including insert has
no_moves = refl

-- the table in which every event leads from each of n states, of which the first is s, to the one after it
chain : ℕ → ℕ → ℕ → List ℕ
chain k s zero = []
chain k s (suc n) = replicate k (suc s) ++ chain k (suc s) n

-- 64 states, 32 events, and all 63 moves are wanted: the last state is reached with the last
longest : reached_within (chain 32 0 63 ++ replicate 32 63) 64 32 0 63 ≡ 2 ^ 64 - 1
unfolding reached_within spread moved_set moved_below with_moves target including insert has chain
longest = refl
