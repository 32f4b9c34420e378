-- "Given exactly when", for looking up and for adding: 17, 18, and adding's 17, 1 to 9, 26, 16 in its own order.
-- Assumes nothing.
use Prim.Native.Nat.{ℕ, zero, suc, ◌+◌, ◌*◌, ◌≤◌, ◌<◌}
use native.Mathlib.Omega.{arith}
use native.Mathlib.Decide.{dec_lt}
use native.Mathlib.Nat.{le_of_suc-le-suc}
use borrow.Author.Tests.{eqb-true, eqb-false, eq-eqb}
use mathlib.Core.Path.{◌≡◌, refl, subst}
use mathlib.Core.Bool.{Bool, true, false, not}
use mathlib.Core.List.{List, [], ◌∷◌, ◌++◌}
use mathlib.Core.Logic.{◌↔◌, inr}
use lib.Dec.{eqb}
use lib.ListN.{length}
use denote.Ref.{Bor}
use Rattle.std.specs.Prelude.{Ok, Err}
use Rattle.rule.specs.Refusals.{among, or_else, first_of, refuse_if, verdict_told}
use Rattle.rule.specs.Given.{Table, NoRow, Given, Ends}
use Rattle.rule.specs.declared.Refusal.{Refusal}
use Rattle.rule.specs.declared.Refusal.TheVariants.{Book, Missing, Full}
use Rattle.rule.proofs.BoolLaws.{clash, not_so, so, le_says, Fails, fails_say}
use Rattle.rule.proofs.NumberLaws.{among_says, among_ahead, Gives}
use Rattle.rule.proofs.RefusalLaws.{not_both}
use Rattle.rule.proofs.SetLaws.{below_or}
use Rattle.rule.proofs.TableLaws.{Within, Answers, Decides, decided, end, then, append, as_rows, sound_exactly, numbers, verdict_ends}
use Rattle.rulefile.specs.Given.{Reading, reading_order}
use Rattle.rulefile.specs.Reading.{verdict_on}
use Rattle.rule.specs.Putting.{written_told, put_order}
use Rattle.rule.proofs.PutLaws.{put_gives, put_does, put_ends}
use Rattle.rulefile.proofs.GivenLaws.{file_within, file_answers}
use Rattle.book.specs.Book.{Filed, after_rules}
use Rattle.book.specs.Directory.{spare_at, length_at, distance_at, count_in, directory_in, filled, well_formed, entries_in}
use Rattle.book.specs.Finding.{Looked, sought_in, pick, books_verdict, unless, lookup_of, verdict_by, PartBy, FindPromise, times, InForce}
use Rattle.book.specs.Finding.{NotThere, in_neither, not_in_job, not_in_office, Finds, in_job, in_office, not_there}
use Rattle.book.specs.Adding.{with_rule, add_verdict, AddPromise}
use Rattle.book.specs.Given.{lengths_to, Fills, BadBook, no_count, many, wide, spare, unfilled, find_order, Finding, bad_job, bad_office, at_18}
use Rattle.book.specs.Given.{add_order, AddRow, at_17, file, at_26, Adding}
use Rattle.book.specs.declared.Lookup.TheVariants.{Job, Office}
use Rattle.book.proofs.DirectoryLaws.{filled_says, Formed, formed_says}
use Rattle.book.proofs.MeaningLaws.{force_counts}
use Rattle.book.proofs.FindLaws.{BothFormed, books_formed, look_picks, look_finds}
use Rattle.rule.specs.Verdict.{Verdict, Written}

-- 17 of one book

module _ (b : List ℕ) (end : ℕ) where
  -- a walk that comes through
  spares : (n at start : ℕ) → filled b end n at start ≡ true → (i : ℕ) → i < n → spare_at b (at + 8 * i) ≡ 0
  spares zero at start p i h = absurd (omega arith)
  spares (suc n) at start p zero h = let z : at + 8 * 0 ≡ at = omega arith in rw z ((filled_says b end n at start).0 p).0
  spares (suc n) at start p (suc i) h =
      let q : at + 8 * suc i ≡ at + 8 + 8 * i = omega arith in
      rw q (spares n (at + 8) (start + length_at b at) ((filled_says b end n at start).0 p).1.1 i (le_of_suc-le-suc h))

  begin_at : (n at start : ℕ) → filled b end n at start ≡ true → (i : ℕ) → i < n → distance_at b (at + 8 * i) + (start + lengths_to b at i) ≡ length b
  unfolding lengths_to
  begin_at zero at start p i h = absurd (omega arith)
  begin_at (suc n) at start p zero h =
      let z : at + 8 * 0 ≡ at = omega arith in
      let s : start + 0 ≡ start = omega arith in
      rw (z, s) ((filled_says b end n at start).0 p).1.0
  begin_at (suc n) at start p (suc i) h =
      let q : at + 8 * suc i ≡ at + 8 + 8 * i = omega arith in
      let e = begin_at n (at + 8) (start + length_at b at) ((filled_says b end n at start).0 p).1.1 i (le_of_suc-le-suc h) in
      rw q (omega arith)

  ends_at : (n at start : ℕ) → filled b end n at start ≡ true → start + lengths_to b at n ≡ end
  unfolding lengths_to filled
  ends_at zero at start p = let e = eqb-true start end p in omega arith
  ends_at (suc n) at start p =
      let e = ends_at n (at + 8) (start + length_at b at) ((filled_says b end n at start).0 p).1.1 in
      omega arith

  -- and one that must
  comes : (n at start : ℕ) → ((i : ℕ) → i < n → spare_at b (at + 8 * i) ≡ 0) → Fills b end n at start → filled b end n at start ≡ true
  unfolding lengths_to filled
  comes zero at start s f = let e = f.ends in eq-eqb start end (omega arith)
  comes (suc n) at start s f =
      let z : at + 8 * 0 ≡ at = omega arith in
      let s0 : spare_at b at ≡ 0 = rw z at (s 0 (omega arith)) in
      let d : distance_at b (at + 8 * 0) + (start + 0) ≡ length b = f.begins 0 (omega arith) in
      let d0 : distance_at b at + (start + 0) ≡ length b = rw z at d in
      let e = f.ends in
      (filled_says b end n at start).1 (
        s0,
        (omega arith, comes n (at + 8) (start + length_at b at) (λ i h. later_spare i h) (record { begins = λ i h. later i h; ends = omega arith })),
      )
    where
      next : (i : ℕ) → at + 8 * suc i ≡ at + 8 + 8 * i
      next i = omega arith

      later_spare : (i : ℕ) → i < n → spare_at b (at + 8 + 8 * i) ≡ 0
      later_spare i h = rw (next i) at (s (suc i) (omega arith))

      later : (i : ℕ) → i < n → distance_at b (at + 8 + 8 * i) + (start + length_at b at + lengths_to b (at + 8) i) ≡ length b
      later i h =
          let e : distance_at b (at + 8 + 8 * i) + (start + (length_at b at + lengths_to b (at + 8) i)) ≡ length b =
          rw (next i) at (f.begins (suc i) (omega arith)) in
          omega arith

-- the second bytes below n are all 0, or there is one that is not
look_spares : {A : Type 0} (f : ℕ → ℕ) (n : ℕ) → (((i : ℕ) → i < n → f i ≡ 0) → A)
    → ((i : ℕ) → i < n → (f i ≡ 0 → ⊥) → A) → A
look_spares f zero all one = all (λ i h. absurd (omega arith))
look_spares {A} f (suc n) all one = look_spares f n (by (eqb (f n) 0) refl) (λ i h ne. one i (omega arith) ne)
  where
    by : (t : Bool) → eqb (f n) 0 ≡ t → ((i : ℕ) → i < n → f i ≡ 0) → A
    by true e zs = all (λ i h. below_or i n (zs i) (λ ge. let q : i ≡ n = omega arith in rw q (eqb-true (f n) 0 e)))
    by false e zs = one n (omega arith) (eqb-false (f n) 0 e)

module _ (b : List ℕ) where
  not_bad : Formed b → BadBook b → ⊥
  not_bad g (no_count h) = omega (arith, g.long)
  not_bad g (many h) = omega (arith, g.few)
  not_bad g (wide h) = omega (arith, g.fits)
  not_bad g (spare i h ne) = ne (spares b (directory_in b) (count_in b) (directory_in b) 0 g.full i h)
  not_bad g (unfilled n) =
      n (
      record {
        begins = begin_at b (directory_in b) (count_in b) (directory_in b) 0 g.full;
        ends = ends_at b (directory_in b) (count_in b) (directory_in b) 0 g.full;
      }
      )

  bad : well_formed b ≡ false → BadBook b
  bad p =
      elim (dec_lt (length b) 2) [
        | yes h ↦ no_count h
        | no h ↦
            elim (dec_lt 1024 (count_in b)) [
              | yes h₁ ↦ many h₁
              | no h₁ ↦
                  elim (dec_lt (length b) (after_rules (count_in b))) [
                    | yes h₂ ↦ wide h₂
                    | no h₂ ↦
                        look_spares (λ i. spare_at b (directory_in b + 8 * i)) (count_in b)
                        (λ zs. unfilled (λ f. clash ((formed_says b).1 (
                        record {
                          long = omega arith;
                          few = omega arith;
                          fits = omega arith;
                          full = comes b (directory_in b) (count_in b) (directory_in b) 0 zs f;
                        }
                        )) p))
                        (λ i l ne. spare i l ne)
                  ]
            ]
      ]

  -- the walk fails exactly when the book is refused 17
  pub formed_fails : Fails (well_formed b) (BadBook b)
  formed_fails = (bad, λ x. not_so (well_formed b) (λ w. not_bad ((formed_says b).0 w) x))

-- looking up

module _ (job office : List ℕ) (number age : ℕ) where
  abbrev rows : Table
  rows = Finding job office number age

  find_within : Within find_order rows
  find_within n x (bad_job h) = record { number = refl; listed = refl }
  find_within n x (bad_office g h) = record { number = refl; listed = refl }
  find_within n x (at_18 h) = record { number = refl; listed = refl }

  decides_17 : Decides rows 17 (books_verdict job office)
  decides_17 x = (by (well_formed job) (well_formed office) refl refl, from)
    where
      by : (s t : Bool) → well_formed job ≡ s → well_formed office ≡ t
          → or_else (refuse_if (not s) (Book 0)) (refuse_if (not t) (Book 1)) ≡ Err x → rows 17 x
      by false t p q e = let k : Book 0 ≡ x = cc in subst (λ (y : Refusal). rows 17 y) k (bad_job ((formed_fails job).0 p))
      by true false p q e =
          let k : Book 1 ≡ x = cc in
          subst (λ (y : Refusal). rows 17 y) k (bad_office (λ b. clash p ((formed_fails job).1 b)) ((formed_fails office).0 q))
      by true true p q e = not_both refl e

      from : {y : Refusal} → rows 17 y → books_verdict job office ≡ Err y
      from (bad_job h) = rw ((formed_fails job).1 h)
      from (bad_office g h) = rw (so (well_formed job) (λ q. g ((formed_fails job).0 q)), (formed_fails office).1 h)

  -- an entry in force is there
  there : {start size : ℕ} {l : List Filed} → InForce l number age start size → times number l ≤ age → ⊥
  there f h = omega (arith, force_counts f)

  decides_18 : books_verdict job office ≡ Ok tt → Decides rows 18 (verdict_by (pick (sought_in job number age) (sought_in office number age)))
  decides_18 s x = (to _ finds, from)
    where
      w : BothFormed job office
      w = books_formed job office s

      finds : Finds (entries_in job) (entries_in office) number age (pick (sought_in job number age) (sought_in office number age))
      finds = rw (look_picks job office w.job_formed w.office_formed number age) at (look_finds job office w.job_formed w.office_formed number age)

      to : (r : Looked) → Finds (entries_in job) (entries_in office) number age r → verdict_by r ≡ Err x → rows 18 x
      to (Ok (Job s z)) (in_job f) e = not_both refl e
      to (Ok (Office s z)) (in_office n f) e = not_both refl e
      to (Err y) (not_there h) e = let k : Missing ≡ x = cc in subst (λ (y : Refusal). rows 18 y) k (at_18 h)

      miss : (r : Looked) → Finds (entries_in job) (entries_in office) number age r
          → NotThere (entries_in job) (entries_in office) number age → verdict_by r ≡ Err Missing
      miss (Ok (Job s z)) (in_job f) (in_neither p q) = absurd (there f (omega arith))
      miss (Ok (Job s z)) (in_job f) (not_in_job p q) = absurd (there f q)
      miss (Ok (Job s z)) (in_job f) (not_in_office p q r) = absurd (there f (omega arith))
      miss (Ok (Office s z)) (in_office n f) (in_neither p q) = absurd (there f (omega arith))
      miss (Ok (Office s z)) (in_office n f) (not_in_job p q) = absurd (omega arith)
      miss (Ok (Office s z)) (in_office n f) (not_in_office p q r) = absurd (there f r)
      miss (Err y) (not_there h) n = refl

      from : {y : Refusal} → rows 18 y → verdict_by (pick (sought_in job number age) (sought_in office number age)) ≡ Err y
      from (at_18 h) = miss _ finds h

  find_answers : Answers rows find_order (verdict_by (lookup_of job office number age))
  unfolding lookup_of
  find_answers =
      subst (λ (v : Verdict). Answers rows find_order v) (told (books_verdict job office) _)
      (then _ decides_17 (λ s. then _ (decides_18 s) (λ _. end)))
    where
      told : (v : Verdict) (r : Looked) → or_else v (or_else (verdict_by r) (Ok tt)) ≡ verdict_by (unless v r)
      told (Ok _) (Ok x) = refl
      told (Ok _) (Err x) = refl
      told (Err x) r = refl

  -- a refusal is given exactly when its row holds and no earlier one does, and none exactly when no row holds
  pub find_gives : (x : Refusal) → (verdict_by (lookup_of job office number age) ≡ Err x) ↔ Given rows x find_order
  find_gives = find_answers.gives

  pub find_numbers : Gives find_order (verdict_by (lookup_of job office number age))
  find_numbers = numbers find_within find_answers

  pub find_sound : (verdict_by (lookup_of job office number age) ≡ Ok tt) ↔ NoRow rows
  find_sound = sound_exactly find_within find_answers

-- how a lookup ends: a refused one hands back an empty part
pub find_ends : (job office : Bor (List ℕ)) (number age : ℕ) (part : Bor (List ℕ)) → FindPromise job office number age part
    → Ends (Finding job.now office.now number age) find_order (verdict_told (verdict_by (lookup_of job.now office.now number age))) (part.now ≡ [])
find_ends job office number age part p =
    verdict_ends (verdict_by (lookup_of job.now office.now number age)) (find_sound job.now office.now number age).0
    (λ x e. ((find_gives job.now office.now number age x).0 e, empty (lookup_of job.now office.now number age) x p e))
  where
    empty : (r : Looked) (x : Refusal) → PartBy r job office part → verdict_by r ≡ Err x → part.now ≡ []
    empty (Ok y) x q e = not_both refl e
    empty (Err y) x q e = q.bytes

-- adding

module _ (b rule : List ℕ) where
  add_within : Within add_order (AddRow b rule)
  add_within n x (at_17 h) = record { number = refl; listed = refl }
  add_within n x (file r) =
      let w = file_within rule n x r in
      record { number = w.number; listed = (among_says n 17 (reading_order ++ (26 ∷ []))).1 (inr (among_ahead n reading_order (26 ∷ []) w.listed)) }
  add_within n x (at_26 h) = record { number = refl; listed = refl }

  add_answers : Answers (AddRow b rule) add_order (add_verdict b rule)
  unfolding add_verdict first_of
  add_answers =
      then _ (decided (AddRow b rule) 17 (fails_say (formed_fails b)) at_17 says_17) (λ _.
      append (verdict_on rule) (as_rows (λ n x q. (file, rest n x q)) (file_answers rule)) (λ _.
      then _ (decided (AddRow b rule) 26 (le_says 1024 (count_in b)) at_26 says_26) (λ _. end)))
    where
      says_17 : (y : Refusal) → AddRow b rule 17 y → (Book 0 ≡ y) × BadBook b
      says_17 y (at_17 h) = (refl, h)
      says_17 y (file r) = clash (file_within rule _ _ r).listed refl

      rest : (n : ℕ) (x : Refusal) → among n reading_order ≡ true → AddRow b rule n x → Reading rule n x
      rest n x q (at_17 h) = clash q refl
      rest n x q (file r) = r
      rest n x q (at_26 h) = clash q refl

      says_26 : (y : Refusal) → AddRow b rule 26 y → (Full ≡ y) × (1024 ≤ count_in b)
      says_26 y (file r) = clash (file_within rule _ _ r).listed refl
      says_26 y (at_26 h) = (refl, h)

module _ (b : List ℕ) (number : ℕ) (rule out : List ℕ) {w : Written} {out' : List ℕ} (kept : AddPromise b number rule out w out') where
  pub add_gives : (x : Refusal) → (w ≡ Err x) ↔ Given (Adding b number rule (length out)) x (put_order add_order)
  add_gives = put_gives (add_within b rule) refl (add_answers b rule) kept

  pub add_does : (n : ℕ) → (w ≡ Ok n) ↔ (NoRow (Adding b number rule (length out)) × (n ≡ length (with_rule b number rule)))
  add_does = put_does (add_within b rule) refl (add_answers b rule) kept

  -- how adding ends: a refused call leaves the output as it was
  pub add_ends : Ends (Adding b number rule (length out)) (put_order add_order) (written_told w) (out' ≡ out)
  add_ends = put_ends (add_within b rule) refl (add_answers b rule) kept
