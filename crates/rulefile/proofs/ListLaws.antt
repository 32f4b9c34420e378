-- Laws of the lists that a rule file is made of: `up_to`, `flat_up_to` and `padded`.
-- Assumes nothing.
use mathlib.Core.Path.{◌≡◌, refl, sym, ap, ◌∙◌}
use mathlib.Core.List.{List, [], ◌∷◌, ◌++◌, append_assoc}
use Prim.Native.Nat.{ℕ, zero, suc, ◌+◌, ◌-◌, ◌*◌, ◌≤◌, ◌<◌}
use native.Mathlib.Omega.{arith}
use mathlib.Core.Logic.{⊎_elim}
use native.Mathlib.Nat.{eq-or-lt_of_le, le_of_suc-le-suc, mul-zero, mul-suc, sub-zero, zero-sub, suc-sub-suc}
use native.Mathlib.Numerals.{add-one}
use lib.ListN.{length, get_or, take, drop, set, replicate, length-append, length-replicate, get_or-append}
use lib.Seq.{set_at, take_at, get_or_at}
use Rattle.octets.specs.Copies.{copied}
use Rattle.octets.proofs.CopyLaws.{copied_whole}
use Rattle.rule.specs.Drawing.{padded}
use Rattle.rulefile.specs.Layout.{up_to, flat_up_to}

pub length_up_to : {A : Type 0} (f : ℕ → A) (n : ℕ) → length (up_to f n) ≡ n
unfolding up_to
length_up_to f zero = refl
length_up_to f (suc n) = length-append (up_to f n) (f n ∷ []) ∙ ap (λ k. k + 1) (length_up_to f n) ∙ add-one n

pub get_d_up_to : {A : Type 0} (f : ℕ → A) (n i : ℕ) (d : A) → i < n → get_or (up_to f n) i d ≡ f i
unfolding up_to
get_d_up_to f zero i d h = absurd (omega arith)
get_d_up_to f (suc n) i d h =
    ⊎_elim
    (λ e. rw e (get_or_at (up_to f n) (f n) [] d n (length_up_to f n)))
    (λ l. get_or-append (up_to f n) (f n ∷ []) d i (rw length_up_to l) ∙ get_d_up_to f n i d l)
    (eq-or-lt_of_le (le_of_suc-le-suc h))

pub length_flat_up_to : {A : Type 0} (k : ℕ) (f : ℕ → List A) (n : ℕ) → ((i : ℕ) → length (f i) ≡ k) → length (flat_up_to f n) ≡ k * n
unfolding flat_up_to
length_flat_up_to k f zero e = sym (mul-zero k)
length_flat_up_to k f (suc n) e =
    length-append (flat_up_to f n) (f n)
    ∙ ap (λ j. j + length (f n)) (length_flat_up_to k f n e)
    ∙ ap (λ j. k * n + j) (e n)
    ∙ sym (mul-suc k n)

pub flat_ext : {A : Type 0} (f g : ℕ → List A) (n : ℕ) → ((i : ℕ) → i < n → f i ≡ g i) → flat_up_to f n ≡ flat_up_to g n
unfolding flat_up_to
flat_ext f g zero h = refl
flat_ext f g (suc n) h = rw (flat_ext f g n (λ i l. h i (omega arith)), h n (omega arith))

pub length_padded : {A : Type 0} (n : ℕ) (x : A) (l : List A) → length l ≤ n → length (padded n x l) ≡ n
unfolding padded
length_padded n x l h = length-append l (replicate (n - length l) x) ∙ rw length-replicate (omega arith)

replicate_more : {A : Type 0} (k n : ℕ) (x : A) → k < n → replicate (n - k) x ≡ x ∷ replicate (n - suc k) x
replicate_more k n x h = let e : n - k ≡ suc (n - suc k) = omega arith in ap (λ j. replicate j x) e

-- a store at the first place after l
pub padded_more : {A : Type 0} (n : ℕ) (x v : A) (l : List A) (k : ℕ) → length l ≡ k → k < n
    → set (padded n x l) k v ≡ padded n x (l ++ (v ∷ []))
unfolding padded
padded_more n x v l k e h =
    let m : length (l ++ (v ∷ [])) ≡ suc k = length-append l (v ∷ []) ∙ ap (λ j. j + 1) e ∙ add-one k in
    rw (e, replicate_more k n x h, m, append_assoc) (set_at l x (replicate (n - suc k) x) v k e)

drop_replicate : {A : Type 0} (k n : ℕ) (x : A) → drop k (replicate n x) ≡ replicate (n - k) x
drop_replicate zero n x = ap (λ j. replicate j x) (sym (sub-zero n))
drop_replicate (suc k) zero x = ap (λ j. replicate j x) (sym (zero-sub (suc k)))
drop_replicate (suc k) (suc n) x = drop_replicate k n x ∙ ap (λ j. replicate j x) (sym (suc-sub-suc n k))

-- a list that stands at the front of an array of one value
padded_front : {A : Type 0} (n : ℕ) (x : A) (l : List A) → l ++ drop (length l) (replicate n x) ≡ padded n x l
unfolding padded
padded_front n x l = rw drop_replicate

-- a list that is copied to the front of an array of zeros
pub copied_padded : (n : ℕ) (l : List ℕ) → length l ≤ n → copied l (replicate n 0) ≡ padded n 0 l
copied_padded n l h = copied_whole l (replicate n 0) (rw length-replicate h) ∙ padded_front n 0 l

-- the front of a padded list
pub take_padded : {A : Type 0} (n : ℕ) (x : A) (l : List A) (k : ℕ) → length l ≡ k → take k (padded n x l) ≡ l
unfolding padded
take_padded n x l k e = take_at l (replicate (n - length l) x) k e
