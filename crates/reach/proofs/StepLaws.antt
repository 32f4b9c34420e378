-- What the loops and calls of src/lib.rt build, one step at a time.
-- Assumes nothing.
use mathlib.Core.Path.{◌≡◌, refl, sym, ap, ◌∙◌}
use mathlib.Core.Bool.{Bool, true, false}
use mathlib.Core.List.{List, map}
use Prim.Native.Nat.{ℕ, zero, suc, ◌+◌, ◌-◌, ◌*◌, ◌/◌, ◌%◌, ◌^◌, ◌≤◌, ◌<◌}
use native.Mathlib.Omega.{arith}
use native.Mathlib.Nat.{add-zero, add-suc}
use native.Mathlib.Numerals.{add-one}
use lib.ListN.{length, get_or, take}
use lib.Bits.{bit_and, bit_xor, and_le_l}
use lib.Count.{count_trailing_zeros}
use lib.Dec.{eqb}
use mir.Syntax.{w64}
use Rattle.std.specs.List.{fold, range_with_len, slice_range, AllWithin, HoldsAt}
use Rattle.std.specs.Option.{MatchOption, unwrap_or}
use Rattle.std.specs.Prelude.{Option, None, Some}
use Rattle.std.proofs.lemmas.Nat.Bits.{bit_at_clear_same, bit_at_clear_other}
use Rattle.std.proofs.lemmas.List.Edits.{length-between, get_or-between}
use Rattle.std.proofs.lemmas.List.Folds.{fold-map}
use Rattle.std.proofs.lemmas.List.FromFn.{length-map-range_with_len, get_or-map-range_with_len}
use Rattle.std.proofs.lemmas.List.Sums.{fold_more}
use lib.Seq.{take_all}
use Rattle.rule.specs.Ways.{event_into}
use Rattle.rule.specs.Sets.{has, including}
use Rattle.rule.specs.Reach.{place_of, target, with_moves, moved_below, moved_set, spread, reached_within}
use Rattle.rule.proofs.SetLaws.{has_of_bit, bit_of_has, has_none, has_past, lowest_in, lowest_first, below_or}
use Rattle.rule.proofs.MoveLaws.{moved_fresh}
use Rattle.rule.proofs.BoolLaws.{clash, not_so}
use Rattle.rule.proofs.LeastLaws.{least_is, least_none}

-- a member by the bit that the code looks at: past 63 there is none
module _ (x i : ℕ) where
  pub bit_one : i < 64 → x / 2 ^ (i % 64) % 2 ≡ 1 → true ≡ has x i
  bit_one l b = let e : i % 64 ≡ i = omega arith in sym (has_of_bit x i (rw e at b))

  pub bit_none : x < 2 ^ 64 → (x / 2 ^ (i % 64) % 2 ≡ 1 → ⊥) → false ≡ has x i
  bit_none h d =
      below_or i 64
      (λ l. let e : i % 64 ≡ i = omega arith in sym (not_so (has x i) (λ m. d (rw e (bit_of_has x i m)))))
      (λ l. sym (has_past 64 x i h l))

-- a row of the table, and the moves of its state, one at a time
module _ (table : List ℕ) (k s : ℕ) where
  abbrev pub row_of : List ℕ
  row_of = slice_range table (place_of k s 0) (place_of k s k)

  module _ (whole : place_of k s k ≤ length table) where
    pub row_length : length row_of ≡ k
    row_length = length-between table (place_of k s 0) (place_of k s k) whole ∙ omega arith

    pub row_at : (e : ℕ) → e < k → get_or row_of e 0 ≡ target table k s e
    unfolding target
    row_at e h =
        let q : place_of k s 0 + e ≡ place_of k s e = omega arith in
        get_or-between table (place_of k s 0) (place_of k s k) e 0 (omega arith) ∙ ap (λ i. get_or table i 0) q

  moves_front : (x : ℕ) (ts : List ℕ) (n : ℕ) → n ≤ length ts → ((e : ℕ) → e < n → get_or ts e 0 ≡ target table k s e)
      → fold including x (take n ts) ≡ with_moves table k s x n
  unfolding with_moves
  moves_front x ts zero l is = refl
  moves_front x ts (suc n) l is =
      rw (← add-one, fold_more including x ts n 0 l, moves_front x ts n (omega arith) (λ e h. is e (omega arith)), is n (omega arith))

  moves_whole : (x : ℕ) (ts : List ℕ) → length ts ≡ k → ((e : ℕ) → e < k → get_or ts e 0 ≡ target table k s e)
      → fold including x ts ≡ with_moves table k s x k
  moves_whole x ts l is = rw (take_all k ts (omega arith)) at (moves_front x ts k (omega arith) is)

  -- off a whole row
  pub moves_row : (x : ℕ) (row : List ℕ) (r : ℕ) → place_of k s k ≤ length table → row ≡ row_of → r ≡ fold including x row → r ≡ with_moves table k s x k
  moves_row x row r whole are is = is ∙ rw are (moves_whole x row_of (row_length whole) (row_at whole))

  -- cell by cell
  pub moves_cells : (x r : ℕ) → r ≡ fold (λ out e. including out (target table k s e)) x (range_with_len 0 k) → r ≡ with_moves table k s x k
  moves_cells x r is =
      is ∙ sym (fold-map including (target table k s) x (range_with_len 0 k))
      ∙ moves_whole x (map (target table k s) (range_with_len 0 k)) (length-map-range_with_len (target table k s) 0 k)
      (λ e h. get_or-map-range_with_len (target table k s) 0 k e e 0 h (omega arith))

-- the moves from the members of x, added to y
module _ (table : List ℕ) (k : ℕ) where
  -- all events of a row
  pub moves_all : (s x e out : ℕ) → e ≤ k → k ≤ e → out ≡ with_moves table k s x e → out ≡ with_moves table k s x k
  moves_all s x e out le ge io = let q : e ≡ k = omega arith in cc

  -- states that are no members add nothing
  moved_none : (x y n : ℕ) → ((i : ℕ) → i < n → has x i ≡ false) → moved_below table k x y n ≡ y
  unfolding moved_below
  moved_none x y zero none = refl
  moved_none x y (suc n) none = rw (none n (omega arith)) (moved_none x y n (λ i h. none i (omega arith)))

  -- two sets with the same members from m on
  moved_alike : (x y z w m j : ℕ) → ((i : ℕ) → m ≤ i → has z i ≡ has x i) → moved_below table k z w m ≡ moved_below table k x y m
      → moved_below table k z w (m + j) ≡ moved_below table k x y (m + j)
  unfolding moved_below
  moved_alike x y z w m zero same is = rw add-zero is
  moved_alike x y z w m (suc j) same is = rw (add-suc, same (m + j) (omega arith), moved_alike x y z w m j same is)

  pub moved_end : (x y n : ℕ) → x ≡ 0 → y ≡ moved_below table k x y n
  moved_end x y n z = sym (moved_none x y n (λ i h. rw z (has_none i)))

  -- the lowest member
  module _ (x y n : ℕ) (h : x < 2 ^ 64) (d : x ≡ 0 → ⊥) where
    abbrev s : ℕ
    s = count_trailing_zeros 64 x

    abbrev rest : ℕ
    rest = bit_and x (2 ^ 64 - 1 - 1 * 2 ^ s % 2 ^ 64)

    in_s : has x s ≡ true
    in_s = lowest_in 64 x h d

    pub lowest_lt : s < 64
    lowest_lt = below_or s 64 (λ l. l) (λ l. clash in_s (has_past 64 x s h l))

    -- is none of the n states
    pub moved_stop : n ≤ s → y ≡ moved_below table k x y n
    moved_stop g = sym (moved_none x y n (λ i l. lowest_first 64 x i (omega arith)))

    rest_lt : rest < 2 ^ 64
    rest_lt = omega (arith, and_le_l x (2 ^ 64 - 1 - 1 * 2 ^ s % 2 ^ 64))

    rest_out : has rest s ≡ false
    unfolding has
    rest_out = rw (bit_at_clear_same w64 x s lowest_lt)

    rest_in : (i : ℕ) → (i ≡ s → ⊥) → has rest i ≡ has x i
    unfolding has
    rest_in i o =
        below_or i 64
        (λ l. ap (λ b. eqb b 1) (bit_at_clear_other w64 x s lowest_lt i l o))
        (λ l. has_past 64 rest i rest_lt l ∙ sym (has_past 64 x i h l))

    -- is one of them, and is taken out
    pub moved_more : (z r : ℕ) → s < n → moved_below table k x y n ≡ r → z ≡ with_moves table k s y k → moved_below table k rest z n ≡ r
    unfolding moved_below
    moved_more z r l is iz =
        let here : moved_below table k rest z (suc s) ≡ moved_below table k x y (suc s) =
        rw (
          rest_out,
          in_s,
          moved_none rest z s (λ i g. rest_in i (omega arith) ∙ lowest_first 64 x i g),
          moved_none x y s (λ i g. lowest_first 64 x i g),
        ) iz in
        let e : suc s + (n - suc s) ≡ n = omega arith in
        rw e at (moved_alike x y rest z (suc s) (n - suc s) (λ i g. rest_in i (omega arith)) here) ∙ is

    pub rest_less : rest < x
    rest_less =
        below_or rest x
        (λ l. l)
        (λ g.
        let e : rest ≡ x = omega (arith, and_le_l x (2 ^ 64 - 1 - 1 * 2 ^ s % 2 ^ 64)) in
        clash in_s (rw e at rest_out))

module _ (table : List ℕ) (n k : ℕ) where
  -- a move first or a move last
  pub spread_first : (x m : ℕ) → spread table n k (moved_set table n k x) m ≡ spread table n k x (suc m)
  unfolding spread
  spread_first x zero = refl
  spread_first x (suc m) = ap (moved_set table n k) (spread_first x m)

  -- where a move adds nothing, no further one does
  pub spread_still : (x m : ℕ) → moved_set table n k x ≡ x → spread table n k x m ≡ x
  unfolding spread
  spread_still x zero h = refl
  spread_still x (suc m) h = ap (moved_set table n k) (spread_still x m h) ∙ h

  pub spread_none : (x m : ℕ) → m ≡ 0 → x ≡ spread table n k x m
  unfolding spread
  spread_none x m e = rw e

  -- only the moves from the members f of x can lead out of x
  module _ (x f y : ℕ) (is : y ≡ moved_below table k f x n) (only : moved_below table k f x n ≡ moved_set table n k x) where
    pub spread_stops : (m : ℕ) → y ≡ x → x ≡ spread table n k x m
    spread_stops m same = sym (spread_still x m (sym only ∙ sym is ∙ same))

    pub spread_more : (m r : ℕ) → (m ≡ 0 → ⊥) → r ≡ spread table n k y (m - 1) → r ≡ spread table n k x m
    spread_more m r d ir =
        let e : suc (m - 1) ≡ m = omega arith in
        ir ∙ ap (λ z. spread table n k z (m - 1)) (is ∙ only) ∙ rw e at (spread_first x (m - 1))

    -- then only those from the new members can lead out of y
    pub only_fresh : x < 2 ^ 64 → moved_below table k (bit_xor y x) y n ≡ moved_set table n k y
    only_fresh h = rw (is ∙ only) (moved_fresh table n k x h)

  pub only_all : (x : ℕ) → moved_below table k x x n ≡ moved_set table n k x
  unfolding moved_set
  only_all x = refl

  pub within : (q m x r : ℕ) → x ≡ including 0 q → r ≡ spread table n k x m → r ≡ reached_within table n k q m
  unfolding reached_within
  within q m x r ix ir = cc

  -- the loop from x₀: what is reached from here in the moves left is what is reached from the start in all of them
  module _ (x₀ m₀ x m : ℕ) (rest : spread table n k x (m - 1) ≡ spread table n k x₀ m₀) where
    pub loop_done : (q : ℕ) → x₀ ≡ including 0 q → m ≤ 1 → x ≡ reached_within table n k q m₀
    loop_done q is h = within q m₀ x₀ x is (spread_none x (m - 1) (omega arith) ∙ rest)

    module _ (f y : ℕ) (is_y : y ≡ moved_below table k f x n) (only : moved_below table k f x n ≡ moved_set table n k x) where
      pub loop_stops : (q : ℕ) → x₀ ≡ including 0 q → y ≡ x → x ≡ reached_within table n k q m₀
      loop_stops q is same = within q m₀ x₀ x is (spread_stops x f y is_y only (m - 1) same ∙ rest)

      pub loop_more : 1 < m → spread table n k y (m - 1 - 1) ≡ spread table n k x₀ m₀
      loop_more h = spread_more x f y is_y only (m - 1) (spread table n k y (m - 1 - 1)) (λ z. omega arith) refl ∙ rest

  -- the same of a loop over 1 .. n, i moves on
  module _ (x₀ x i : ℕ) (left : spread table n k x (n - i) ≡ spread table n k x₀ (n - 1)) where
    pub round_done : (q : ℕ) → x₀ ≡ including 0 q → n ≤ i → x ≡ reached_within table n k q (n - 1)
    round_done q is h = within q (n - 1) x₀ x is (spread_none x (n - i) (omega arith) ∙ left)

    module _ (f y : ℕ) (is_y : y ≡ moved_below table k f x n) (only : moved_below table k f x n ≡ moved_set table n k x) where
      pub round_stops : (q : ℕ) → x₀ ≡ including 0 q → y ≡ x → x ≡ reached_within table n k q (n - 1)
      round_stops q is same = within q (n - 1) x₀ x is (spread_stops x f y is_y only (n - i) same ∙ left)

      pub round_more : i < n → spread table n k y (n - (i + 1)) ≡ spread table n k x₀ (n - 1)
      round_more h =
          let e : n - i - 1 ≡ n - (i + 1) = omega arith in
          rw e at (spread_more x f y is_y only (n - i) (spread table n k y (n - i - 1)) (λ z. omega arith) refl) ∙ left

-- the lowest event of a row that leads into x
module _ (table : List ℕ) (k s x : ℕ) where
  abbrev into : ℕ → Bool
  into e = has x (target table k s e)

  pub into_empty : x ≡ 0 → k ≡ event_into (target table k) k x s
  unfolding event_into
  into_empty z = sym (least_none into k (λ i h. rw z (has_none (target table k s i))))

  -- found cell by cell
  pub into_cells : (r : Option ℕ)
      → MatchOption r ((e : ℕ) → 0 ≤ e → e < k → into e ≡ false) (λ e. (0 ≤ e) × (e < k) × (into e ≡ true) × ((i : ℕ) → 0 ≤ i → i < e → into i ≡ false))
      → unwrap_or r k ≡ event_into (target table k) k x s
  unfolding event_into
  into_cells None none = sym (least_none into k (λ i h. none i (omega arith) h))
  into_cells (Some e) found = sym (least_is into k e found.1 found.2 (λ i h. found.3 i (omega arith) h))

  -- found in a whole row, by the bit of its cell
  module _ (h : x < 2 ^ 64) (row : List ℕ) (whole : place_of k s k ≤ length table) (is : row ≡ row_of table k s) where
    cell : (e : ℕ) → e < k → get_or row e 0 ≡ target table k s e
    cell e l = rw is (row_at table k s whole e l)

    long : length row ≡ k
    long = rw is (row_length table k s whole)

    -- a cell whose bit is not set leads to no member
    not_into : (n : ℕ) → n ≤ k → AllWithin (λ t. x / 2 ^ (t % 64) % 2 ≡ 1 → ⊥) row 0 n → (e : ℕ) → e < n → into e ≡ false
    not_into n l none e g = rw (← cell e (omega arith)) (sym (bit_none x (get_or row e 0) h (none e 0 (omega arith) g)))

    pub into_never : AllWithin (λ t. x / 2 ^ (t % 64) % 2 ≡ 1 → ⊥) row 0 (length row) → k ≡ event_into (target table k) k x s
    unfolding event_into
    into_never none = sym (least_none into k (not_into k (omega arith) (rw long at none)))

    pub into_found : (e : ℕ) → e < length row → HoldsAt (λ t. x / 2 ^ (t % 64) % 2 ≡ 1) row e → AllWithin (λ t. x / 2 ^ (t % 64) % 2 ≡ 1 → ⊥) row 0 e
        → get_or row e 0 < 64 → e ≡ event_into (target table k) k x s
    unfolding event_into
    into_found e l at none low =
        let g : e < k = omega (arith, long) in
        sym (least_is into k e g (rw (← cell e g) (sym (bit_one x (get_or row e 0) low (at 0)))) (not_into e (omega arith) none))

-- what the functions name over them
pub ruleset walk = (moved_end, moved_stop, moved_more, rest_less)

pub ruleset spreads = (spread_none, spread_stops, spread_more, only_fresh)

pub ruleset starts = (only_all, within)

pub ruleset rounds = (only_all, only_fresh, round_done, round_stops, round_more)
