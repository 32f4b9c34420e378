-- Each refusal of an evening is given exactly when its row of the table holds and no earlier row does; a refused evening keeps what came before,
-- and the refused event changes nothing. Assumes nothing.
use Prim.Native.Nat.{ℕ, suc, ◌+◌, ◌≤◌, ◌<◌}
use native.Mathlib.Omega.{arith}
use native.Mathlib.Decide.{dec_lt}
use mathlib.Core.Path.{◌≡◌, refl, sym, ap, ◌∙◌}
use mathlib.Core.Bool.{Bool, true, false, cond}
use lib.Dec.{ltb}
use mathlib.Core.List.{List, [], ◌∷◌, ◌++◌, append-nil}
use mathlib.Core.Logic.{◌↔◌, inr}
use lib.ListN.{length, length-append}
use lib.Seq.{drop-append_seam}
use borrow.Author.Tests.{lt-ltb}
use Rattle.std.specs.Prelude.{Ok, Err}
use Rattle.rule.specs.Drawing.{event_no}
use Rattle.rule.specs.Given.{Table, NoRow, Given, here, later, Ends}
use Rattle.rule.specs.Refusals.{told_of, among, verdict_told}
use Rattle.rule.specs.declared.Refusal.{Refusal}
use Rattle.rule.specs.declared.Refusal.TheVariants.{Log}
use Rattle.rule.specs.Verdict.{Verdict}
use Rattle.rule.proofs.BoolLaws.{clash}
use Rattle.rule.proofs.NumberLaws.{among_says, among_ahead}
use Rattle.rule.proofs.RefusalLaws.{not_both}
use Rattle.rule.proofs.TableLaws.{Within, ahead, own_row, only_given, as_rows, sound_exactly, verdict_ends}
use Rattle.sheet.specs.Opening.{opened_of}
use Rattle.sheet.specs.Layout.{head_in}
use Rattle.effects.specs.Effects.{OneAnswer}
use Rattle.effects.specs.declared.Run.{Run}
use Rattle.monitor.specs.Evening.{Entry, codes, Outcome, idle, calls_of, stands_by, evening_of, report_of, Reports, EveningPromise}
use Rattle.monitor.specs.Given.{stand_order, StandRow, cell_order, event_order, RefusedAt, evening_order}
use Rattle.monitor.specs.Given.{EveningRow, too_long, no_event, event_refused, EveningKept}
use Rattle.monitor.specs.Known.{known, remarks, SoFar}
use Rattle.monitor.specs.declared.Evening.{Evening}
use Rattle.monitor.proofs.GivenLaws.{stand_within, stand_rows, refused_when, turn_refuses}
use Rattle.monitor.proofs.EveningLaws.{is_short}
use Rattle.monitor.proofs.FirstLaws.{stopped, some_none, refused_call, found, found_ends, all_passed, first_only}

pub codes_long : (l : List Entry) → length (codes l) ≡ length l
codes_long [] = refl
codes_long (x ∷ l) = ap suc (codes_long l)

-- the events of a log under k and those that are not are all of it
pub parts_long : (k : ℕ) (log : List ℕ) → length (known k log) + length (remarks k log) ≡ length log
unfolding known remarks
parts_long k [] = refl
parts_long k (e ∷ es) = by (ltb e k) (parts_long k es)
  where
    by : (b : Bool) → length (known k es) + length (remarks k es) ≡ length es
        → length (cond b (e ∷ known k es) (known k es)) + length (cond b (remarks k es) (e ∷ remarks k es)) ≡ suc (length es)
    by true p = omega (arith, p)
    by false p = omega (arith, p)

-- an evening has one report, and one memory and output after it
pub evening_one : (sheet : List ℕ) (run : Run) (log memory output : List ℕ) → OneAnswer (EveningPromise sheet run log memory output)
evening_one sheet run log memory output =
    let x = evening_of sheet run log memory output in
    record {
      answer = report_of x;
      memory = x.memory;
      output = x.released ++ x.rest;
      kept = record { report = refl; memory_after = refl; output_after = refl };
      only = λ r m out p. (p.report, p.memory_after, p.output_after);
    }

module _ (sheet : List ℕ) (run : Run) (memory output : List ℕ) where
  abbrev evening : List ℕ → Outcome
  evening log = evening_of sheet run log memory output

  abbrev T : List ℕ → Table
  T log = EveningRow sheet run log memory output

  -- a log over 4,096 events
  pub is_long : (log : List ℕ) → 4096 < length log → evening log ≡ idle run memory output (Err Log)
  unfolding evening_of
  is_long log h = simp (lt-ltb _ _ h)

  -- none
  pub is_empty : evening [] ≡ idle run memory output (stands_by (opened_of sheet) run (length memory))
  is_empty = is_short sheet run [] memory output (omega arith)

  pub empty_row : (n : ℕ) (x : Refusal) → T [] n x → StandRow sheet run (length memory) n x
  empty_row n x (too_long h) = absurd (omega (arith, h))
  empty_row n x (no_event e r) = r
  empty_row n x (event_refused s R q) = absurd (omega (arith, ap length R.whole, length-append R.before (R.event ∷ R.after)))

  -- every row has its refusal's number, one of the order
  listed : (log : List ℕ) (x : Refusal) → RefusedAt sheet run log memory output x → among (told_of x).number evening_order ≡ true
  listed log x R =
      let left = calls_of sheet run R.before memory output in
      let t = (refused_when sheet left.run (event_no R.event) left.memory left.rest x).1 R.refused in
      (among_says (told_of x).number 19 event_order).1 (inr (turn_refuses sheet left.run (event_no R.event) left.memory left.rest x t).one_of)

  pub evening_within : (log : List ℕ) → Within evening_order (T log)
  evening_within log n x (too_long h) = record { number = refl; listed = refl }
  evening_within log n x (no_event q r) =
      let w = stand_within sheet run (length memory) n x r in
      record { number = w.number; listed = (among_says n 19 event_order).1 (inr (among_ahead n stand_order cell_order w.listed)) }
  evening_within log n x (event_refused s R q) = record { number = q; listed = rw q at (listed log x R) }

  -- some: then the evening is the single calls, and its rows are those of the first event that is refused
  module _ (e : ℕ) (es : List ℕ) (short : length (e ∷ es) ≤ 4096) where
    pub is_calls : evening (e ∷ es) ≡ calls_of sheet run (e ∷ es) memory output
    is_calls = is_short sheet run (e ∷ es) memory output short

    row_given : (n : ℕ) (x : Refusal) → T (e ∷ es) n x → ((calls_of sheet run (e ∷ es) memory output).verdict ≡ Err x) × ((told_of x).number ≡ n)
    row_given n x (too_long h) = absurd (omega (arith, h, short))
    row_given n x (no_event q r) = absurd (some_none q)
    row_given n x (event_refused s R q) = (ap (λ (y : Outcome). y.verdict) (found_ends sheet run (e ∷ es) memory output x R), q)

    some_gives : (x : Refusal) → (calls_of sheet run (e ∷ es) memory output).verdict ≡ Err x → Given (T (e ∷ es)) x evening_order
    some_gives x p =
        let R = found sheet (e ∷ es) run memory output x p in
        only_given evening_order (listed (e ∷ es) x R) (event_refused short R refl)
        (λ k y r. let g = row_given k y r in let s : y ≡ x = cc in sym g.1 ∙ ap (λ (z : Refusal). (told_of z).number) s)

  -- what an evening gives
  gives_by : (log : List ℕ) → Dec (4096 < length log) → (x : Refusal) → (evening log).verdict ≡ Err x → Given (T log) x evening_order
  gives_by log (yes h) x p =
      let e : Log ≡ x = cc (is_long log h) in
      rw (← e) (here (too_long h))
  gives_by [] (no h) x p =
      let same : (n : ℕ) (y : Refusal) → among n stand_order ≡ true → StandRow sheet run (length memory) n y ↔ T [] n y =
      λ n y q. (no_event refl, empty_row n y) in
      let a = as_rows same (stand_rows sheet run (length memory)) in
      later (λ y r. clash (stand_within sheet run (length memory) 19 y (empty_row 19 y r)).listed refl)
      (ahead cell_order ((a.gives x).0 (rw is_empty at p)))
  gives_by (e ∷ es) (no h) x p = let s : length (e ∷ es) ≤ 4096 = omega arith in some_gives e es s x (rw (is_calls e es s) at p)

  pub evening_gives : (log : List ℕ) (x : Refusal) → (evening log).verdict ≡ Err x → Given (T log) x evening_order
  evening_gives log = gives_by log (dec_lt 4096 (length log))

  pub evening_sound : (log : List ℕ) → (evening log).verdict ≡ Ok tt → NoRow (T log)
  evening_sound [] p n x r =
      (sound_exactly (stand_within sheet run (length memory)) (stand_rows sheet run (length memory))).0 (rw is_empty at p) n x (empty_row n x r)
  evening_sound (e ∷ es) p n x (too_long h) = not_both p (ap (λ (y : Outcome). y.verdict) (is_long (e ∷ es) h))
  evening_sound (e ∷ es) p n x (no_event q r) = absurd (some_none q)
  evening_sound (e ∷ es) p n x (event_refused s R q) = not_both (rw (is_calls e es s) at p) (row_given e es s n x (event_refused s R q)).0

  -- what a refused evening leaves, by its promise
  module _ (r : Evening) (memory' output' : List ℕ) where
    abbrev Kept : List ℕ → Type 0
    Kept log = EveningKept sheet run log memory output r memory' output'

    kept_none : (log : List ℕ) (x : Refusal) → evening log ≡ idle run memory output (Err x) → (length log ≤ 4096 → log ≡ [])
        → Reports (evening log) r memory' output' → Kept log
    unfolding calls_of
    kept_none log x i none p =
        let P : Reports (idle run memory output (Err x)) r memory' output' = rw i at p in
        record {
          before = [];
          after = log;
          whole = refl;
          passed = rw P.report;
          left = record { report = rw P.report; memory_after = P.memory_after; output_after = P.output_after };
          changes_nothing = λ s e es q y v. absurd (some_none (sym q ∙ none s));
        }

    kept_some : (e : ℕ) (es : List ℕ) → length (e ∷ es) ≤ 4096 → (x : Refusal) → RefusedAt sheet run (e ∷ es) memory output x
        → Reports (evening (e ∷ es)) r memory' output' → Kept (e ∷ es)
    kept_some e es short x R p =
        let left = calls_of sheet run R.before memory output in
        let P : Reports (stopped left x) r memory' output' = rw (is_calls e es short ∙ found_ends sheet run (e ∷ es) memory output x R) at p in
        let c = refused_call sheet left.run R.event left.memory left.rest x R.refused in
        let all = all_passed sheet R.before run memory output R.none_refused in
        record {
          before = R.before;
          after = R.event ∷ R.after;
          whole = R.whole;
          passed = rw (P.report, ← codes_long left.taken, all.0, all.1) (parts_long (head_in sheet).events R.before);
          left = record {
            report = rw (P.report, R.none_refused);
            memory_after = P.memory_after;
            output_after = P.output_after;
          };
          changes_nothing = λ s e' es' q y v.
              let a : R.event ≡ e' = cc in
              let b : x ≡ y = cc P.report in
              rw (P.report, P.memory_after, P.output_after, drop-append_seam left.released left.rest) (rw (a, b) at c);
        }

    kept_by : (log : List ℕ) → Dec (4096 < length log) → (x : Refusal) → (evening log).verdict ≡ Err x → Reports (evening log) r memory' output' → Kept log
    kept_by log (yes h) x v p = kept_none log Log (is_long log h) (λ s. absurd (omega (arith, h, s))) p
    kept_by [] (no h) x v p = kept_none [] x (is_empty ∙ ap (idle run memory output) (rw is_empty at v)) (λ s. refl) p
    kept_by (e ∷ es) (no h) x v p =
        let s : length (e ∷ es) ≤ 4096 = omega arith in
        kept_some e es s x (found sheet (e ∷ es) run memory output x (rw (is_calls e es s) at v)) p

    -- how an evening ends
    pub evening_ends : (log : List ℕ) → EveningPromise sheet run log memory output r memory' output'
        → Ends (T log) evening_order (verdict_told r.verdict) (Kept log)
    evening_ends log p =
        let w : r.verdict ≡ (evening log).verdict = ap (λ (y : Evening). y.verdict) p.report in
        verdict_ends r.verdict (λ q. evening_sound log (sym w ∙ q))
        (λ x q. (evening_gives log x (sym w ∙ q), kept_by log (dec_lt 4096 (length log)) x (sym w ∙ q) p))

  -- 19 exactly where the log is over 4,096 events
  pub evening_19_when : (log : List ℕ) → ((evening log).verdict ≡ Err Log) ↔ (4096 < length log)
  evening_19_when log = (λ p. by (own_row (evening_within log) (evening_gives log Log p)), λ h. ap (λ (y : Outcome). y.verdict) (is_long log h))
    where
      by : T log 19 Log → 4096 < length log
      by (too_long h) = h
      by (no_event q r) = clash (stand_within sheet run (length memory) 19 Log r).listed refl
      by (event_refused s R q) =
          let left = calls_of sheet run R.before memory output in
          let t = (refused_when sheet left.run (event_no R.event) left.memory left.rest Log).1 R.refused in
          clash (turn_refuses sheet left.run (event_no R.event) left.memory left.rest Log t).one_of refl

  -- an empty log gives 11 and 12, and no other number
  pub empty_when : (x : Refusal) → ((evening []).verdict ≡ Err x) ↔ Given (StandRow sheet run (length memory)) x stand_order
  empty_when x = rw is_empty ((stand_rows sheet run (length memory)).gives x)

  -- with 11 or 12 no event was taken or ignored
  pub first_alone : (log : List ℕ) (x : Refusal) → (evening log).verdict ≡ Err x → among (told_of x).number stand_order ≡ true
      → ((evening log).taken ≡ []) × ((evening log).ignored ≡ [])
  unfolding calls_of
  first_alone log = by log (dec_lt 4096 (length log))
    where
      by : (log : List ℕ) → Dec (4096 < length log) → (x : Refusal) → (evening log).verdict ≡ Err x → among (told_of x).number stand_order ≡ true
          → ((evening log).taken ≡ []) × ((evening log).ignored ≡ [])
      by log (yes h) x p a = rw (is_long log h) (refl, refl)
      by [] (no h) x p a = rw is_empty (refl, refl)
      by (e ∷ es) (no h) x p a =
          let s : length (e ∷ es) ≤ 4096 = omega arith in
          let R = found sheet (e ∷ es) run memory output x (rw (is_calls e es s) at p) in
          let none = first_only sheet run memory output x a R.before R.event R.none_refused R.refused in
          rw (is_calls e es s ∙ found_ends sheet run (e ∷ es) memory output x R, none) (refl, refl)

  -- what an evening passes
  none_passed : (log : List ℕ) (v : Verdict) → evening log ≡ idle run memory output v → SoFar sheet log (evening log)
  unfolding known remarks
  none_passed log v i = rw i (record { front = []; rest = log; beginning = refl; taken = refl; ignored = refl })

  calls_passed : (log : List ℕ) (v : Verdict) → (calls_of sheet run log memory output).verdict ≡ v → SoFar sheet log (calls_of sheet run log memory output)
  calls_passed log (Ok tt) p =
      let a = all_passed sheet log run memory output p in
      record { front = log; rest = []; beginning = sym (append-nil log); taken = a.0; ignored = a.1 }
  calls_passed log (Err x) p =
      let R = found sheet log run memory output x p in
      let a = all_passed sheet R.before run memory output R.none_refused in
      rw (found_ends sheet run log memory output x R)
      (record { front = R.before; rest = R.event ∷ R.after; beginning = R.whole; taken = a.0; ignored = a.1 })

  pub evening_passed : (log : List ℕ) → SoFar sheet log (evening log)
  evening_passed log = by log (dec_lt 4096 (length log))
    where
      by : (log : List ℕ) → Dec (4096 < length log) → SoFar sheet log (evening log)
      by log (yes h) = none_passed log (Err Log) (is_long log h)
      by [] (no h) = none_passed [] _ is_empty
      by (e ∷ es) (no h) = rw (is_calls e es (omega arith)) (calls_passed (e ∷ es) _ refl)
