-- What a test says, as facts. Assumes nothing.
use Prim.Native.Nat.{ℕ, ◌≤◌, ◌<◌}
use native.Mathlib.Omega.{arith}
use lib.Dec.{leb, ltb, eqb}
use borrow.Author.Tests.{eqb-true, eqb-false, eq-eqb, ne_eqb, leb-true, leb-false, le-leb, lt-leb, ltb-true, ltb-false, lt-ltb, le-ltb}
use mathlib.Core.Path.{◌≡◌, refl}
use mathlib.Core.Bool.{Bool, true, false, cond, not, ◌&&◌, ◌||◌}
use mathlib.Core.Logic.Iff
use mathlib.Core.Logic.{◌⊎◌, inl, inr, ⊎_elim, ◌↔◌}

-- no test both holds and fails
pub clash : {A : Type 0} {b : Bool} → b ≡ true → b ≡ false → A
clash p q = absurd (let z : ◌≡◌ {A = ℕ} 0 1 = cc in omega arith)

-- a test that cannot hold fails, and one that cannot fail holds
pub not_so : (b : Bool) → (b ≡ true → ⊥) → b ≡ false
not_so true n = absurd (n refl)
not_so false n = refl

pub so : (b : Bool) → (b ≡ false → ⊥) → b ≡ true
so true n = refl
so false n = absurd (n refl)

-- what is so of both is so of the one that a test chooses
pub chosen : {A : Type 0} (P : A → Type 0) (b : Bool) {x y : A} → (b ≡ true → P x) → (b ≡ false → P y) → P (cond b x y)
chosen P true f g = f refl
chosen P false f g = g refl

-- a test, or one that fails
pub or_false : (b : Bool) → b ≡ b || false
or_false true = refl
or_false false = refl

-- what a test says

abbrev pub Says : Bool → Type 0 → Type 0
Says b A = (b ≡ true) ↔ A

pub itself : (b : Bool) → Says b (b ≡ true)
itself b = (λ p. p, λ p. p)

pub eq_says : (x y : ℕ) → Says (eqb x y) (x ≡ y)
eq_says x y = (eqb-true x y, eq-eqb x y)

pub le_says : (x y : ℕ) → Says (leb x y) (x ≤ y)
le_says x y = (leb-true x y, le-leb x y)

pub lt_says : (x y : ℕ) → Says (ltb x y) (x < y)
lt_says x y = (ltb-true x y, lt-ltb x y)

pub and_says : {A B : Type 0} {a b : Bool} → Says a A → Says b B → Says (a && b) (A × B)
and_says {A} {B} {a} {b} f g = (to a f, λ p. rw (f.1 p.0, g.1 p.1))
  where
    to : (a : Bool) → Says a A → a && b ≡ true → A × B
    to true f p = (f.0 refl, g.0 p)
    to false f p = clash p refl

pub or_says : {A B : Type 0} {a b : Bool} → Says a A → Says b B → Says (a || b) (A ⊎ B)
or_says {A} {B} {a} {b} f g = (to a f, ⊎_elim (λ p. rw (f.1 p)) (λ p. from a (g.1 p)))
  where
    to : (a : Bool) → Says a A → a || b ≡ true → A ⊎ B
    to true f p = inl (f.0 refl)
    to false f p = inr (g.0 p)

    from : (a : Bool) → b ≡ true → a || b ≡ true
    from true p = refl
    from false p = p

pub not_says : (a : Bool) → Says (not a) (a ≡ false)
not_says a = (to a, λ p. rw p)
  where
    to : (a : Bool) → not a ≡ true → a ≡ false
    to true p = clash p refl
    to false p = refl

pub ne_says : {A : Type 0} {a : Bool} → Says a A → Says (not a) (A → ⊥)
ne_says {A} {a} f = (λ p x. clash (f.1 x) ((not_says a).0 p), λ n. (not_says a).1 (not_so a (λ p. n (f.0 p))))

-- the other words for what it says
pub in_words : {A B : Type 0} {b : Bool} → Says b A → (A → B) → (B → A) → Says b B
in_words s f g = (λ p. f (s.0 p), λ p. s.1 (g p))

-- what a test says where it fails

abbrev pub Fails : Bool → Type 0 → Type 0
Fails t A = (t ≡ false) ↔ A

-- the same of its contrary
pub fails_say : {A : Type 0} {t : Bool} → Fails t A → Says (not t) A
fails_say {t = t} f = Iff.trans (not_says t) f

pub le_fails : (x y : ℕ) → Fails (leb x y) (y < x)
le_fails x y = (leb-false x y, lt-leb x y)

pub lt_fails : (x y : ℕ) → Fails (ltb x y) (y ≤ x)
lt_fails x y = (ltb-false x y, le-ltb x y)

pub eq_fails : (x y : ℕ) → Fails (eqb x y) (x ≡ y → ⊥)
eq_fails x y = (eqb-false x y, ne_eqb x y)

pub and_fails : {A B : Type 0} {a b : Bool} → Fails a A → Fails b B → Fails (a && b) (A ⊎ B)
and_fails {a = true} f g = (λ p. inr (g.0 p), ⊎_elim (λ x. clash refl (f.1 x)) g.1)
and_fails {a = false} f g = (λ p. inl (f.0 refl), λ x. refl)

pub or_fails : {A B : Type 0} {a b : Bool} → Fails a A → Fails b B → Fails (a || b) (A × B)
or_fails {a = true} f g = (λ p. clash refl p, λ x. f.1 x.0)
or_fails {a = false} f g = (λ p. (f.0 refl, g.0 p), λ x. g.1 x.1)
