-- N, K, m and the initial state in range: said once, over the limits of N and K.
-- Assumes nothing.
use Rattle.std.specs.Prelude.{ℕ, ◌≤◌, ◌<◌, ◌≡◌, Bool, ◌&&◌, ◌⊎◌, leb, ltb}
use Rattle.rule.specs.declared.Limits.{Limits}
use Rattle.rule.specs.declared.Shape.{Shape}

-- the limits of a rule: 1 <= N <= 64, 1 <= K <= 32, 1 <= m <= 8
abbrev pub rule_limits : Limits
rule_limits = record { states = 64; events = 32 }

abbrev pub most_pairs : ℕ
most_pairs = 8

-- the modes are 0 and 1
abbrev pub last_mode : ℕ
last_mode = 1

-- the longest note
abbrev pub longest_note : ℕ
longest_note = 1024

-- x is one of lo to hi; x is not one of them
abbrev pub between : (lo hi x : ℕ) → Bool
between lo hi x = leb lo x && leb x hi

pub data Outside (lo hi x : ℕ) : Type 0 where
  under : x < lo → Outside lo hi x
  over : hi < x → Outside lo hi x

-- N and K in range, initial state < N: the test, what it says, and what it says where it fails
unfoldable pub in_range : Limits → (n k initial : ℕ) → Bool
in_range l n k initial = between 1 l.states n && (between 1 l.events k && ltb initial n)

pub record InRange (l : Limits) (n k initial : ℕ) : Type 0 where
  pub some_states : 1 ≤ n
  pub few_states : n ≤ l.states
  pub some_events : 1 ≤ k
  pub few_events : k ≤ l.events
  pub initial_in : initial < n

pub data OutOfRange (l : Limits) (n k initial : ℕ) : Type 0 where
  bad_N : Outside 1 l.states n → OutOfRange l n k initial
  bad_K : Outside 1 l.events k → OutOfRange l n k initial
  bad_initial : n ≤ initial → OutOfRange l n k initial

-- 2 does not apply: class 1 to 4
pub record Classed (s : Shape) : Type 0 where
  pub low : 1 ≤ s.class
  pub high : s.class ≤ 4

-- 3 does not apply: N, K, m in range, initial state < N, byte 5 is 0 or 1, m 1 in class 1, 2, 4
pub record Ranged (s : Shape) : Type 0 where
  pub numbers : InRange rule_limits s.states s.events s.initial.0
  pub some_pairs : 1 ≤ s.pairs
  pub few_pairs : s.pairs ≤ most_pairs
  pub mode_in : s.mode ≤ last_mode
  pub one_pair : (s.class ≡ 3) ⊎ (s.pairs ≡ 1)

-- neither applies
pub record Shaped (s : Shape) : Type 0 where
  pub classed : Classed s
  pub ranged : Ranged s
