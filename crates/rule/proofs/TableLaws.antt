-- A verdict that gives the first row of a table that holds, in the order of checking: row by row, and then of all rows.
-- Assumes nothing.
use Prim.Native.Nat.{ℕ}
use mathlib.Core.Path.{◌≡◌, refl, sym, subst}
use mathlib.Core.Bool.{Bool, true, false}
use mathlib.Core.List.{List, [], ◌∷◌, ◌++◌}
use lib.Dec.{eqb}
use mathlib.Core.Logic.Iff
use mathlib.Core.Logic.{inr, ⊎_elim, ◌↔◌}
use Rattle.rule.specs.Refusals.{told_of, among, refuse_if, or_else, verdict_told}
use Rattle.rule.specs.Given.{Table, NoneAt, NoRow, Given, here, later, After, row, last, done, refused, Ends}
use Rattle.rule.specs.declared.Refusal.{Refusal}
use Rattle.rule.proofs.BoolLaws.{Says, eq_says, clash}
use Rattle.rule.proofs.NumberLaws.{among_says, first_among, among_either, among_ahead, among_last, Gives}
use Rattle.rule.proofs.RefusalLaws.{not_both, sound_or, refuse_refused}
use Rattle.rule.specs.Verdict.{Verdict}
use Rattle.std.specs.Prelude.{Ok, Err}

-- no row with one of these numbers holds
abbrev pub NoneOf : Table → List ℕ → Type 0
NoneOf T l = (n : ℕ) → among n l ≡ true → NoneAt T n

-- a verdict decides the row of a number
abbrev pub Decides : Table → ℕ → Verdict → Type 0
Decides T n v = (x : Refusal) → (v ≡ Err x) ↔ T n x

-- of the rows with these numbers, in this order, the verdict gives the first that holds
pub record Answers (T : Table) (order : List ℕ) (v : Verdict) : Type 0 where
  pub gives : (x : Refusal) → (v ≡ Err x) ↔ Given T x order
  pub none : v ≡ Ok tt → NoneOf T order

-- the rows of a table have the numbers of their refusals, and these stand in the order
pub record Listed (order : List ℕ) (n : ℕ) (x : Refusal) : Type 0 where
  pub number : (told_of x).number ≡ n
  pub listed : among n order ≡ true

abbrev pub Within : List ℕ → Table → Type 0
Within order T = (n : ℕ) (x : Refusal) → T n x → Listed order n x

-- a test decides a row that says what the test says
pub decided : (T : Table) (n : ℕ) {b : Bool} {A : Type 0} {x : Refusal} → Says b A → (A → T n x) → ((y : Refusal) → T n y → (x ≡ y) × A)
    → Decides T n (refuse_if b x)
decided T n {b} {x = x} s to from y = (
  λ p. let r = (refuse_refused b x y).0 p in subst (λ (z : Refusal). T n z) r.1 (to (s.0 r.0)),
  λ r. let f = from y r in (refuse_refused b x y).1 (s.1 f.1, f.0),
)

module _ {T : Table} where
  -- the row by which a refusal is given
  row_of : {x : Refusal} {l : List ℕ} → Given T x l → (n : ℕ) × T n x
  row_of (here r) = (_, r)
  row_of (later z g) = row_of g

  -- it is the row of its own number
  pub own_row : {x : Refusal} {order : List ℕ} → Within order T → Given T x order → T (told_of x).number x
  own_row {x} within g = let r = row_of g in rw (within r.0 x r.1).number r.1

  -- given before others are looked at, and given after others have no row that holds
  pub ahead : {x : Refusal} {l : List ℕ} (m : List ℕ) → Given T x l → Given T x (l ++ m)
  ahead m (here r) = here r
  ahead m (later z g) = later z (ahead m g)

  passing : {x : Refusal} {n : ℕ} {l : List ℕ} → NoneAt T n → Given T x l ↔ Given T x (n ∷ l)
  passing {x} z = (later z, λ g. elim g [ here r ↦ absurd (z x r) | later z' h ↦ h ])

  pub behind : {x : Refusal} (l m : List ℕ) → NoneOf T l → Given T x m ↔ Given T x (l ++ m)
  behind [] m none = (λ g. g, λ g. g)
  behind (n ∷ l) m none = Iff.trans (behind l m (λ k a. none k ((among_says k n l).1 (inr a)))) (passing (none n (first_among n l)))

  -- a row that holds is given, where no row with another number holds
  only_by : {n : ℕ} {x : Refusal} (m : ℕ) (l : List ℕ) → T n x → ((k : ℕ) (y : Refusal) → T k y → k ≡ n) → (among n l ≡ true → Given T x l)
      → among n (m ∷ l) ≡ true → (b : Bool) → eqb n m ≡ b → Given T x (m ∷ l)
  only_by {n} m l r only rest a true q = let e = (eq_says n m).0 q in here (rw e at r)
  only_by {n} m l r only rest a false q =
      later (λ y s. clash ((eq_says n m).1 (sym (only m y s))) q) (rest (⊎_elim (λ e. clash ((eq_says n m).1 e) q) (λ z. z) ((among_says n m l).0 a)))

  pub only_given : {n : ℕ} {x : Refusal} (order : List ℕ) → among n order ≡ true → T n x → ((k : ℕ) (y : Refusal) → T k y → k ≡ n) → Given T x order
  only_given [] a r only = clash a refl
  only_given {n} (m ∷ l) a r only = only_by m l r only (λ z. only_given l z r only) a (eqb n m) refl

  -- where one of these numbers has a row that holds, what is given is given by one of them
  within_first : {x z : Refusal} {l : List ℕ} (m : List ℕ) → Given T z l → Given T x (l ++ m) → Given T x l
  within_first m (here r) (here s) = here s
  within_first m (here r) (later z g) = absurd (z _ r)
  within_first m (later z g) (here s) = absurd (z _ s)
  within_first m (later z g) (later z' h) = later z (within_first m g h)

  -- no rows are left
  pub end : Answers T [] (Ok tt)
  end = record { gives = λ x. (not_both refl, elim [ ]); none = λ p n q. clash q refl }

  -- one row
  one : {n : ℕ} {v : Verdict} → Decides T n v → Answers T (n ∷ []) v
  one {n} {v} d = record { gives = λ x. (λ p. here ((d x).0 p), alone x); none = none }
    where
      alone : (x : Refusal) → Given T x (n ∷ []) → v ≡ Err x
      alone x (here r) = (d x).1 r
      alone x (later _ g) = elim g [ ]

      none : v ≡ Ok tt → NoneOf T (n ∷ [])
      none p m a x r = let e = ⊎_elim (λ e. e) (λ q. clash q refl) ((among_says m n []).0 a) in not_both p ((d x).1 (rw e at r))

  -- rows, and then the rows after them
  pub append : {l m : List ℕ} {w : Verdict} (v : Verdict) → Answers T l v → (v ≡ Ok tt → Answers T m w) → Answers T (l ++ m) (or_else v w)
  append {l} {m} (Ok tt) a rest =
      let b = rest refl in
      record {
        gives = λ x. Iff.trans (b.gives x) (behind l m (a.none refl));
        none = λ p n q. ⊎_elim (a.none refl n) (b.none p n) (among_either n l m q);
      }
  append {l} {m} (Err z) a rest =
      record {
        gives = λ x. (λ p. ahead m ((a.gives x).0 p), λ g. (a.gives x).1 (within_first m ((a.gives z).0 refl) g));
        none = λ p. not_both p refl;
      }

  -- one row, and then the rows after it
  pub then : {n : ℕ} {l : List ℕ} {w : Verdict} (v : Verdict) → Decides T n v → (v ≡ Ok tt → Answers T l w) → Answers T (n ∷ l) (or_else v w)
  then v d rest = append v (one d) rest

  -- of all rows

  pub sound_exactly : {order : List ℕ} {v : Verdict} → Within order T → Answers T order v → (v ≡ Ok tt) ↔ NoRow T
  sound_exactly {v = v} within a = (
    λ p n x r. a.none p n (within n x r).listed x r,
    λ z. sound_or v (λ p. p) (λ x p. let r = row_of ((a.gives x).0 p) in absurd (z r.0 x r.1)),
  )

  -- what is refused has a number of the order
  pub numbers : {order : List ℕ} {v : Verdict} → Within order T → Answers T order v → Gives order v
  numbers within a x p =
      let r = row_of ((a.gives x).0 p) in
      let w = within r.0 x r.1 in
      record { one_of = rw w.number w.listed }

-- tables with the same rows of these numbers
along : {T U : Table} {x : Refusal} {l : List ℕ} → ((n : ℕ) (y : Refusal) → among n l ≡ true → T n y ↔ U n y) → Given T x l → Given U x l
along {l = []} same g = elim g [ ]
along {l = n ∷ l} same (here r) = here ((same n _ (first_among n l)).0 r)
along {l = n ∷ l} same (later z g) =
    later (λ y r. z y ((same n y (first_among n l)).1 r)) (along (λ k y a. same k y ((among_says k n l).1 (inr a))) g)

pub as_rows : {T U : Table} {l : List ℕ} {v : Verdict} → ((n : ℕ) (x : Refusal) → among n l ≡ true → T n x ↔ U n x) → Answers T l v → Answers U l v
as_rows same a =
    record {
      gives = λ x. Iff.trans (a.gives x) (along same, along (λ n y q. Iff.symm (same n y q)));
      none = λ p n q x r. a.none p n q x ((same n x q).1 r);
    }

-- one more row, after all others
module _ {T : Table} (order : List ℕ) (within : Within order T) (n : ℕ) (x : Refusal) (new : among n order ≡ false) (A : Type 0) where
  abbrev U : Table
  U = After T n x A

  pub after : {b : Bool} (v : Verdict) → Says b A → Answers T order v → Answers U (order ++ (n ∷ [])) (or_else v (refuse_if b x))
  after v says a = append v (as_rows (λ m y q. (row, old m y q)) a) (λ _. one (decided U n says last (λ y. from y refl)))
    where
      old : (m : ℕ) (y : Refusal) → among m order ≡ true → U m y → T m y
      old m y q (row r) = r
      old m y q (last h) = clash q new

      from : {k : ℕ} (y : Refusal) → k ≡ n → U k y → (x ≡ y) × A
      from {k} y e (row r) = clash (within k y r).listed (rw e new)
      from y e (last h) = (refl, h)

  pub after_within : (told_of x).number ≡ n → Within (order ++ (n ∷ [])) U
  after_within is m y (row r) = let w = within m y r in record { number = w.number; listed = among_ahead m order (n ∷ []) w.listed }
  after_within is m y (last h) = record { number = is; listed = among_last n order }

-- how a call ends that answers a verdict
pub verdict_ends : {T : Table} {order : List ℕ} {Rest : Type 0} (v : Verdict) → (v ≡ Ok tt → NoRow T) → ((x : Refusal) → v ≡ Err x → Given T x order × Rest)
    → Ends T order (verdict_told v) Rest
verdict_ends (Ok _) none given = record { tells = done (none refl); rest = λ n. absurd (n refl) }
verdict_ends (Err x) none given = let g = given x refl in record { tells = refused g.0; rest = λ n. g.1 }
