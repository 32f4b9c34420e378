-- Laws of sets of states: their members, equal sets, common members, and what the code's bit operations come to.
-- Assumes nothing.
use mathlib.Core.Path.{◌≡◌, refl, sym, ap, ◌∙◌}
use mathlib.Core.Bool.{Bool, true, false, not, ◌&&◌, ◌||◌}
use mathlib.Core.Logic.{◌⊎◌, inl, inr, ⊎_elim, ◌↔◌}
use Prim.Native.Nat.{ℕ, zero, suc, ◌+◌, ◌-◌, ◌*◌, ◌/◌, ◌%◌, ◌^◌, ◌≤◌, ◌<◌, max, min}
use native.Mathlib.Omega.{arith}
use native.Mathlib.Nat.{div_self, div-eq_of_lt, zero-div, pow-suc, mod-lt, div-div-eq-div-mul, div-lt_iff_lt-mul, mul_comm, one-mul, lt_of_lt_of_le}
use native.Mathlib.Decide.{dec_lt, ℕ_discrete}
use lib.Bits.{bit_and, bit_or, or_step, or_shr, or_add_and, or_lt, and_step, and_shr, and_high, and_le_l, bit_xor, xor_step, xor_shr}
use lib.Count.{count_trailing_zeros, trailing_le}
use lib.Pow.{pow_pos, pow-lt, pow-add, shl-shr, shr-shr, pow_mono, shl_exact}
use lib.Dec.{eqb}
use borrow.Author.Tests.{eqb-true, eqb-false, eq-eqb, ne_eqb, lt-ltb, le-ltb, not-true, not-false}
use Rattle.rule.specs.Sets.{bit, has, Members, insert, including, those, meets_below, meets, is_empty, names_past}

-- a bit is 0 or 1
pub bit_cases : (x s : ℕ) → (bit x s ≡ 0) ⊎ (bit x s ≡ 1)
bit_cases x s = small (bit x s) (mod-lt (x / 2 ^ s) {m = 2} (omega arith))
  where
    small : (b : ℕ) → b < 2 → (b ≡ 0) ⊎ (b ≡ 1)
    small zero h = inl refl
    small (suc zero) h = inr refl
    small (suc (suc b)) h = absurd (omega arith)

-- a member by its bit
pub has_of_bit : (x s : ℕ) → bit x s ≡ 1 → has x s ≡ true
unfolding has
has_of_bit x s e = eq-eqb (bit x s) 1 e

pub out_of_bit : (x s : ℕ) → bit x s ≡ 0 → has x s ≡ false
unfolding has
out_of_bit x s e = ne_eqb (bit x s) 1 (λ f. omega arith)

pub bit_of_has : (x s : ℕ) → has x s ≡ true → bit x s ≡ 1
unfolding has
bit_of_has x s e = eqb-true (bit x s) 1 e

pub bit_of_out : (x s : ℕ) → has x s ≡ false → bit x s ≡ 0
unfolding has
bit_of_out x s e = ⊎_elim (λ z. z) (λ o. absurd (eqb-false (bit x s) 1 e o)) (bit_cases x s)

-- the bits of a power of two

single_same : (s : ℕ) → bit (2 ^ s) s ≡ 1
single_same s = rw (div_self (pow_pos s))

single_above : (s t : ℕ) → s < t → bit (2 ^ s) t ≡ 0
single_above s t h = rw (div-eq_of_lt (pow-lt h))

single_add : (d t : ℕ) → bit (2 ^ (suc d + t)) t ≡ 0
single_add d t = rw (pow-add 2 (suc d) t, shl-shr, pow-suc) (omega arith)

single_below : (s t : ℕ) → t < s → bit (2 ^ s) t ≡ 0
single_below s t h = let e : suc (s - suc t) + t ≡ s = omega arith in rw e at (single_add (s - suc t) t)

single_other : (s t : ℕ) → (s ≡ t → ⊥) → bit (2 ^ s) t ≡ 0
single_other s t d = by (dec_lt s t)
  where
    by : Dec (s < t) → bit (2 ^ s) t ≡ 0
    by (yes h) = single_above s t h
    by (no h) = single_below s t (omega arith)

-- `insert` is the code's or with a power of two

and_single : (x s : ℕ) → bit_and x (2 ^ s) ≡ bit x s * 2 ^ s
and_single x s = let e : 2 ^ (1 + s) - 2 ^ s ≡ 2 ^ s = rw (pow-add 2 1 s) (omega arith) in rw e at (and_high x 1 s)

pub or_insert : (x s : ℕ) → bit_or x (2 ^ s) ≡ insert x s
unfolding insert
or_insert x s = ⊎_elim
    (λ z. rw (out_of_bit x s z) (omega (arith, or_add_and x (2 ^ s), and_single x s, ap (λ b. b * 2 ^ s) z)))
    (λ o. rw (has_of_bit x s o) (omega (arith, or_add_and x (2 ^ s), and_single x s, ap (λ b. b * 2 ^ s) o)))
    (bit_cases x s)

-- `including` within 64 states, and past them
pub including_in : (x s : ℕ) → s < 64 → including x s ≡ insert x s
unfolding including
including_in x s h = rw (lt-ltb s 64 h)

pub including_past : (x s : ℕ) → 64 ≤ s → x ≡ including x s
unfolding including
including_past x s h = rw (le-ltb s 64 h)

pub or_including : (x s : ℕ) → s < 64 → bit_or x (1 * 2 ^ s % 2 ^ 64) ≡ including x s
or_including x s h = rw (including_in x s h, shl_exact {a = 1} 1 s 64 (omega arith) (omega arith), one-mul) (or_insert x s)

-- the empty set has no member
pub has_none : (s : ℕ) → has 0 s ≡ false
has_none s = out_of_bit 0 s (rw zero-div)

-- a set below 2 ^ k has no member from k on
pub has_past : (k x s : ℕ) → x < 2 ^ k → k ≤ s → has x s ≡ false
has_past k x s h g = out_of_bit x s (rw (div-eq_of_lt (lt_of_lt_of_le h (pow_mono g))))

-- the members of x with s: those of x, and s

bit_of_or : (x y s : ℕ) → bit (bit_or x y) s ≡ max (bit x s) (bit y s)
bit_of_or x y s = rw (or_shr x y s, or_step (x / 2 ^ s) (y / 2 ^ s)) (omega arith)

bit_insert : (x s t : ℕ) → bit (insert x s) t ≡ max (bit x t) (bit (2 ^ s) t)
bit_insert x s t = rw (← or_insert x s) (bit_of_or x (2 ^ s) t)

pub insert_keeps : (x s t : ℕ) → has x t ≡ true → has (insert x s) t ≡ true
insert_keeps x s t m =
    has_of_bit (insert x s) t (⊎_elim
    (λ z. omega (arith, bit_insert x s t, bit_of_has x t m))
    (λ o. omega (arith, bit_insert x s t, bit_of_has x t m))
    (bit_cases (2 ^ s) t))

pub insert_new : (x s : ℕ) → has (insert x s) s ≡ true
insert_new x s =
    has_of_bit (insert x s) s (⊎_elim
    (λ z. omega (arith, bit_insert x s s, single_same s))
    (λ o. omega (arith, bit_insert x s s, single_same s))
    (bit_cases x s))

pub insert_other : (x s t : ℕ) → (s ≡ t → ⊥) → has (insert x s) t ≡ has x t
unfolding has
insert_other x s t d = let e : bit (insert x s) t ≡ bit x t = rw (bit_insert x s t, single_other s t d) (omega arith) in rw e

-- by cases: s is below k or not
pub below_or : {A : Type 0} (s k : ℕ) → (s < k → A) → (k ≤ s → A) → A
below_or {A} s k f g = by (dec_lt s k)
  where
    by : Dec (s < k) → A
    by (yes h) = f h
    by (no h) = g (omega arith)

-- by cases: a test is true or false
pub true_or : {A : Type 0} (b : Bool) → (b ≡ true → A) → (b ≡ false → A) → A
true_or true f g = f refl
true_or false f g = g refl

pub including_keeps : (x s t : ℕ) → has x t ≡ true → has (including x s) t ≡ true
including_keeps x s t m =
    below_or s 64
    (λ h. rw (including_in x s h) (insert_keeps x s t m))
    (λ h. rw (← including_past x s h) m)

pub including_new : (x s : ℕ) → s < 64 → has (including x s) s ≡ true
including_new x s h = rw (including_in x s h) (insert_new x s)

-- a member is in the set already
pub including_old : (x s : ℕ) → has x s ≡ true → including x s ≡ x
unfolding insert
including_old x s m = below_or s 64 (λ h. including_in x s h ∙ rw m) (λ h. sym (including_past x s h))

pub including_from : (x s t : ℕ) → has (including x s) t ≡ true → (has x t ≡ true) ⊎ (s ≡ t)
including_from x s t m = by (ℕ_discrete s t)
  where
    by : Dec (s ≡ t) → (has x t ≡ true) ⊎ (s ≡ t)
    by (yes e) = inr e
    by (no d) = inl (below_or s 64
        (λ h. sym (insert_other x s t d) ∙ rw (including_in x s h) at m)
        (λ h. rw (← including_past x s h) at m))

-- a set of states below k is a number below 2 ^ k
pub including_lt : (k x s : ℕ) → x < 2 ^ k → s < k → including x s < 2 ^ k
including_lt k x s hx hs =
    below_or s 64
    (λ h. rw (including_in x s h, ← or_insert x s) (or_lt k x (2 ^ s) hx (pow-lt hs)))
    (λ h. rw (← including_past x s h) hx)

-- and always one below 2 ^ 64 where it was one
pub including_fits : (x s : ℕ) → x < 2 ^ 64 → including x s < 2 ^ 64
including_fits x s h = below_or s 64 (λ l. including_lt 64 x s h l) (λ l. rw (← including_past x s l) h)

-- the states of which a test holds
module _ (p : ℕ → Bool) where
  pub those_lt : (n : ℕ) → those p n < 2 ^ n
  unfolding those
  those_lt zero = omega arith
  those_lt (suc n) =
      let h : those p n < 2 ^ suc n = omega (arith, those_lt n, pow-suc 2 n) in
      true_or (p n) (λ y. rw y (including_lt (suc n) (those p n) n h (omega arith))) (λ o. rw o h)

  pub those_at : (n s : ℕ) → n ≤ 64 → s < n → has (those p n) s ≡ p s
  unfolding those
  those_at zero s few h = absurd (omega arith)
  those_at (suc n) s few h =
      below_or s n
      (λ l. true_or (p n)
      (λ y. rw (y, including_in (those p n) n (omega arith)) (insert_other (those p n) n s (λ e. omega arith) ∙ those_at n s (omega arith) l))
      (λ o. rw o (those_at n s (omega arith) l)))
      (λ l. let e : s ≡ n = omega arith in rw e (true_or (p n)
      (λ y. rw y (including_new (those p n) n (omega arith)))
      (λ o. rw o (has_past n (those p n) n (those_lt n) (omega arith)))))

-- sets with the same members are equal

bit_half : (x s : ℕ) → bit (x / 2) s ≡ bit x (suc s)
bit_half x s = rw (div-div-eq-div-mul, pow-suc, mul_comm 2 (2 ^ s))

pub bits_same : (k x y : ℕ) → x < 2 ^ k → y < 2 ^ k → ((s : ℕ) → s < k → bit x s ≡ bit y s) → x ≡ y
bits_same zero x y hx hy same = omega arith
bits_same (suc k) x y hx hy same =
    let halves : x / 2 ≡ y / 2 =
    bits_same k (x / 2) (y / 2) (omega (arith, pow-suc 2 k)) (omega (arith, pow-suc 2 k))
    (λ s h. bit_half x s ∙ same (suc s) (omega arith) ∙ sym (bit_half y s)) in
    omega (arith, same 0 (omega arith))

-- below 2 ^ k it is enough to ask for each state below k
pub same_members : (k x y : ℕ) → x < 2 ^ k → y < 2 ^ k → ((s : ℕ) → s < k → has x s ≡ has y s) → x ≡ y
same_members k x y hx hy same =
    bits_same k x y hx hy (λ s h.
    true_or (has x s)
    (λ m. bit_of_has x s m ∙ sym (bit_of_has y s (sym (same s h) ∙ m)))
    (λ m. bit_of_out x s m ∙ sym (bit_of_out y s (sym (same s h) ∙ m))))

-- there is one set of 64 bits whose members are those of a test
pub one_set : (p : ℕ → Bool) (x y : ℕ) → x < 2 ^ 64 → y < 2 ^ 64 → Members x p → Members y p → x ≡ y
one_set p x y hx hy mx my = same_members 64 x y hx hy (λ s h. mx s h ∙ sym (my s h))

-- a set of 64 bits whose members are those of a test
pub those_is : (p : ℕ → Bool) (x : ℕ) → x < 2 ^ 64 → Members x p → x ≡ those p 64
those_is p x h m = same_members 64 x (those p 64) h (those_lt p 64) (λ t l. m t l ∙ sym (those_at p 64 t (omega arith) l))

-- common members

-- a state below i in both sets
abbrev pub Common : ℕ → ℕ → ℕ → Type 0
Common x y i = (s : ℕ) × (s < i) × (has x s ≡ true) × (has y s ≡ true)

below_of : (x y i s : ℕ) → s < i → has x s ≡ true → has y s ≡ true → meets_below x y i ≡ true
unfolding meets_below
below_of x y zero s h mx my = absurd (omega arith)
below_of x y (suc i) s h mx my =
    below_or s i
    (λ l. rw (below_of x y i s l mx my) (or_true (has x i && has y i)))
    (λ l. let e : s ≡ i = omega arith in rw (rw e at mx, rw e at my))
  where
    or_true : (b : Bool) → b || true ≡ true
    or_true true = refl
    or_true false = refl

of_below : (x y i : ℕ) → meets_below x y i ≡ true → Common x y i
unfolding meets_below
of_below x y zero m = let z : ◌≡◌ {A = ℕ} 0 1 = cc in absurd (omega arith)
of_below x y (suc i) m =
    true_or (has x i)
    (λ mx. true_or (has y i) (λ my. (i, omega arith, mx, my)) (λ ny. later (of_below x y i (rw (mx, ny) at m))))
    (λ nx. later (of_below x y i (rw nx at m)))
  where
    later : Common x y i → Common x y (suc i)
    later w = (w.0, omega arith, w.2, w.3)

-- two sets meet when some state below 64 is a member of both
pub meets_iff : (x y : ℕ) → (meets x y ≡ true) ↔ Common x y 64
unfolding meets
meets_iff x y = (of_below x y 64, λ w. below_of x y 64 w.0 w.1 w.2 w.3)

-- the code's test `x & y == 0`

bit_of_and : (x y s : ℕ) → bit (bit_and x y) s ≡ min (bit x s) (bit y s)
bit_of_and x y s = rw (and_shr x y s, and_step (x / 2 ^ s) (y / 2 ^ s)) (omega arith)

-- it holds exactly when the sets have no member in common
pub and_none : (x y : ℕ) → bit_and x y ≡ 0 → meets x y ≡ false
and_none x y e =
    true_or (meets x y)
    (λ m.
    let w : Common x y 64 = (meets_iff x y).0 m in
    let z : bit (bit_and x y) w.0 ≡ 0 = rw (e, zero-div) in
    absurd (omega (arith, bit_of_and x y w.0, bit_of_has x w.0 w.2, bit_of_has y w.0 w.3)))
    (λ m. m)

pub none_and : (x y : ℕ) → x < 2 ^ 64 → meets x y ≡ false → bit_and x y ≡ 0
none_and x y h m = bits_same 64 (bit_and x y) 0 (omega (arith, and_le_l x y)) (omega arith) (λ s l. zero_bit s l ∙ sym (rw zero-div))
  where
    zero_bit : (s : ℕ) → s < 64 → bit (bit_and x y) s ≡ 0
    zero_bit s l =
        true_or (has x s)
        (λ mx. true_or (has y s)
        (λ my. let t : meets x y ≡ true = (meets_iff x y).1 (s, l, mx, my) in let z : ◌≡◌ {A = ℕ} 0 1 = cc in absurd (omega arith))
        (λ ny. omega (arith, bit_of_and x y s, bit_of_out y s ny)))
        (λ nx. omega (arith, bit_of_and x y s, bit_of_out x s nx))

pub and_some : (x y : ℕ) → x < 2 ^ 64 → (bit_and x y ≡ 0 → ⊥) → meets x y ≡ true
and_some x y h d = true_or (meets x y) (λ m. m) (λ m. absurd (d (none_and x y h m)))

-- states from n on

lt_pow : (y : ℕ) → y < 2 ^ y
lt_pow zero = omega arith
lt_pow (suc y) = omega (arith, lt_pow y, pow-suc 2 y)

some_bit : (k y : ℕ) → y < 2 ^ k → (y ≡ 0 → ⊥) → (s : ℕ) × (bit y s ≡ 1)
some_bit zero y h d = absurd (d (omega arith))
some_bit (suc k) y h d =
    ⊎_elim
    (λ z.
    let w : (s : ℕ) × (bit (y / 2) s ≡ 1) = some_bit k (y / 2) (omega (arith, pow-suc 2 k)) (λ e. d (omega arith)) in
    (suc w.0, sym (bit_half y w.0) ∙ w.1))
    (λ o. (0, o))
    (bit_cases y 0)

-- a set that is not empty has a member
pub member : (x : ℕ) → (x ≡ 0 → ⊥) → (s : ℕ) × (has x s ≡ true)
member x d = let w : (s : ℕ) × (bit x s ≡ 1) = some_bit x x (lt_pow x) d in (w.0, has_of_bit x w.0 w.1)

-- the members from n on, by a shift
pub has_shifted : (n x s : ℕ) → has (x / 2 ^ n) s ≡ has x (n + s)
unfolding has
has_shifted n x s = rw (shr-shr x n s)

-- a set names a state from n on when it has one as a member
pub names_iff : (n x : ℕ) → (names_past n x ≡ true) ↔ ((s : ℕ) × (n ≤ s) × (has x s ≡ true))
unfolding names_past is_empty
names_iff n x = (
  (λ e.
      let w : (s : ℕ) × (has (x / 2 ^ n) s ≡ true) = member (x / 2 ^ n) (eqb-false (x / 2 ^ n) 0 (not-true (eqb (x / 2 ^ n) 0) e)) in
      (n + w.0, omega arith, sym (has_shifted n x w.0) ∙ w.1)),
  (λ w.
      true_or (eqb (x / 2 ^ n) 0)
      (λ e.
      let p : n + (w.0 - n) ≡ w.0 = omega arith in
      let m : has (x / 2 ^ n) (w.0 - n) ≡ true = has_shifted n x (w.0 - n) ∙ rw p w.2 in
      let o : has 0 (w.0 - n) ≡ true = rw (eqb-true (x / 2 ^ n) 0 e) at m in
      let f : has 0 (w.0 - n) ≡ false = has_none (w.0 - n) in
      let z : ◌≡◌ {A = ℕ} 0 1 = cc in absurd (omega arith))
      (λ e. rw e)),
)

-- a set names no state from n on exactly when it is a number below 2 ^ n
pub names_none : (n x : ℕ) → x < 2 ^ n → names_past n x ≡ false
unfolding names_past is_empty
names_none n x h = rw (div-eq_of_lt h)

pub none_named : (n x : ℕ) → names_past n x ≡ false → x < 2 ^ n
unfolding names_past is_empty
none_named n x e =
    let z : x / 2 ^ n ≡ 0 = eqb-true (x / 2 ^ n) 0 (not-false (eqb (x / 2 ^ n) 0) e) in
    omega (arith, (div-lt_iff_lt-mul {k = 2 ^ n} {x = x} {y = 1} (pow_pos n)).0 (omega arith))

-- the code's `x ^ y`: what is in x and not in y is in it, what is in neither is not

pub xor_in : (x y s : ℕ) → has x s ≡ true → has y s ≡ false → has (bit_xor x y) s ≡ true
xor_in x y s mx ny =
    has_of_bit (bit_xor x y) s
    (rw (xor_shr x y s, xor_step (x / 2 ^ s) (y / 2 ^ s), bit_of_has x s mx, bit_of_out y s ny) (omega arith))

pub xor_out : (x y s : ℕ) → has x s ≡ false → has y s ≡ false → has (bit_xor x y) s ≡ false
xor_out x y s nx ny =
    out_of_bit (bit_xor x y) s
    (rw (xor_shr x y s, xor_step (x / 2 ^ s) (y / 2 ^ s), bit_of_out x s nx, bit_of_out y s ny) (omega arith))

-- the code's count of zeros: the lowest member

trailing_odd : (k x : ℕ) → x % 2 ≡ 1 → count_trailing_zeros (suc k) x ≡ 0
unfolding count_trailing_zeros
trailing_odd k x o = rw o

trailing_even : (k x : ℕ) → x % 2 ≡ 0 → count_trailing_zeros (suc k) x ≡ suc (count_trailing_zeros k (x / 2))
unfolding count_trailing_zeros
trailing_even k x z = rw z

pub lowest_in : (k x : ℕ) → x < 2 ^ k → (x ≡ 0 → ⊥) → has x (count_trailing_zeros k x) ≡ true
lowest_in k x h d = has_of_bit x (count_trailing_zeros k x) (lowest k x h d)
  where
    lowest : (k x : ℕ) → x < 2 ^ k → (x ≡ 0 → ⊥) → bit x (count_trailing_zeros k x) ≡ 1
    lowest zero x h d = absurd (d (omega arith))
    lowest (suc k) x h d =
        ⊎_elim
        (λ z. rw (trailing_even k x (omega arith), ← bit_half x (count_trailing_zeros k (x / 2)))
        (lowest k (x / 2) (omega (arith, pow-suc 2 k)) (λ e. d (omega arith))))
        (λ o. rw (trailing_odd k x (omega arith)) o)
        (bit_cases x 0)

pub lowest_first : (k x i : ℕ) → i < count_trailing_zeros k x → has x i ≡ false
lowest_first k x i h = out_of_bit x i (first k x i h)
  where
    first : (k x i : ℕ) → i < count_trailing_zeros k x → bit x i ≡ 0
    first zero x i h = absurd (omega (arith, trailing_le 0 x))
    first (suc k) x zero h =
        ⊎_elim (λ z. z) (λ o. absurd (omega (arith, trailing_odd k x (omega arith)))) (bit_cases x 0)
    first (suc k) x (suc i) h =
        ⊎_elim
        (λ z. sym (bit_half x i) ∙ first k (x / 2) i (omega (arith, trailing_even k x (omega arith))))
        (λ o. absurd (omega (arith, trailing_odd k x (omega arith))))
        (bit_cases x 0)

-- the members of two sets in common and together, and the states outside one
pub has_and : (x y t : ℕ) → has (bit_and x y) t ≡ has x t && has y t
has_and x y t =
    let e = bit_of_and x y t in
    ⊎_elim
    (λ z. rw (out_of_bit x t z) (out_of_bit (bit_and x y) t (omega arith)))
    (λ o. ⊎_elim
    (λ z. rw (has_of_bit x t o, out_of_bit y t z) (out_of_bit (bit_and x y) t (omega arith)))
    (λ w. rw (has_of_bit x t o, has_of_bit y t w) (has_of_bit (bit_and x y) t (omega arith)))
    (bit_cases y t))
    (bit_cases x t)

pub has_or : (x y t : ℕ) → has (bit_or x y) t ≡ has x t || has y t
has_or x y t =
    let e = bit_of_or x y t in
    ⊎_elim
    (λ z. ⊎_elim
    (λ w. rw (out_of_bit x t z, out_of_bit y t w) (out_of_bit (bit_or x y) t (omega arith)))
    (λ w. rw (out_of_bit x t z, has_of_bit y t w) (has_of_bit (bit_or x y) t (omega arith)))
    (bit_cases y t))
    (λ o. rw (has_of_bit x t o) (has_of_bit (bit_or x y) t (⊎_elim (λ w. omega arith) (λ w. omega arith) (bit_cases y t))))
    (bit_cases x t)

bit_not : (k x t : ℕ) → x < 2 ^ k → t < k → bit (2 ^ k - 1 - x) t + bit x t ≡ 1
bit_not zero x t h l = absurd (omega arith)
bit_not (suc k) x zero h l = omega (arith, pow-suc 2 k)
bit_not (suc k) x (suc t) h l =
    let e : (2 ^ suc k - 1 - x) / 2 ≡ 2 ^ k - 1 - x / 2 = omega (arith, pow-suc 2 k) in
    rw (← bit_half (2 ^ suc k - 1 - x) t, ← bit_half x t, e) (bit_not k (x / 2) t (omega (arith, pow-suc 2 k)) (omega arith))

pub has_not : (x t : ℕ) → x < 2 ^ 64 → t < 64 → has (2 ^ 64 - 1 - x) t ≡ not (has x t)
has_not x t h l =
    let e = bit_not 64 x t h l in
    ⊎_elim
    (λ z. rw (out_of_bit x t z) (has_of_bit (2 ^ 64 - 1 - x) t (omega arith)))
    (λ o. rw (has_of_bit x t o) (out_of_bit (2 ^ 64 - 1 - x) t (omega arith)))
    (bit_cases x t)
