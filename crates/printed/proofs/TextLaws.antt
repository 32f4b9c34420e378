-- Laws of numbers in decimal: what is put of their digits, and how long they are.
-- Assumes nothing.
use Prim.Native.Nat.{ℕ, ◌/◌, ◌%◌, ◌≤◌, ◌<◌}
use mathlib.Core.Path.{◌≡◌}
use mathlib.Core.List.{List, [], ◌∷◌, ◌++◌}
use native.Mathlib.Omega.{arith}
use lib.ListN.{drop}
use borrow.Author.Tests.{lt-ltb, le-ltb}
use Rattle.printed.specs.Text.{digit, decimal}
use Rattle.printed.specs.Writing.{Puts}
use Rattle.printed.specs.declared.text.Text.{Text}
use Rattle.printed.proofs.WritingLaws.{puts_then}

-- three digits, of which a number below 100 has the last two, and one below 10 the last
abbrev pub digits : ℕ → List ℕ
digits n = digit (n / 100) ∷ digit (n / 10 % 10) ∷ digit (n % 10) ∷ []

pub decimal_one : (n : ℕ) → n < 10 → decimal n ≡ drop 2 (digits n)
unfolding decimal
decimal_one n h = let e : n % 10 ≡ n = omega arith in rw (lt-ltb n 10 h, e)

pub decimal_two : (n : ℕ) → 10 ≤ n → n < 100 → decimal n ≡ drop 1 (digits n)
unfolding decimal
decimal_two n l h = let e : n / 10 % 10 ≡ n / 10 = omega arith in rw (le-ltb n 10 l, lt-ltb n 100 h, e)

pub decimal_three : (n : ℕ) → 100 ≤ n → decimal n ≡ digits n
unfolding decimal
decimal_three n l = rw (le-ltb n 10 (omega arith), le-ltb n 100 l)

-- a word, and then the digits that a number has
module _ {r s t : Text} {word : List ℕ} (n : ℕ) (p : Puts r s word) where
  pub number_one : n < 10 → Puts s t (drop 2 (digits n)) → Puts r t (word ++ decimal n)
  number_one h q = rw (decimal_one n h) (puts_then p q)

  pub number_two : 10 ≤ n → n < 100 → Puts s t (drop 1 (digits n)) → Puts r t (word ++ decimal n)
  number_two l h q = rw (decimal_two n l h) (puts_then p q)

  pub number_three : 100 ≤ n → Puts s t (digits n) → Puts r t (word ++ decimal n)
  number_three h q = rw (decimal_three n h) (puts_then p q)
