-- Laws of an evening: whether it may begin, and what holds at each turn of the loop over its events.
-- Assumes nothing.
use Prim.Native.Nat.{ℕ, ◌+◌, ◌-◌, ◌≤◌, ◌<◌}
use native.Mathlib.Omega.{arith}
use native.Mathlib.Numerals.{add-one}
use native.Mathlib.Nat.{add-zero}
use Rattle.std.specs.Prelude.{None, Some, Ok, Err}
use Rattle.effects.specs.declared.Taken.{Taken}
use mathlib.Core.Path.{◌≡◌, refl, sym, ap, ◌∙◌}
use mathlib.Core.Bool.{Bool, true, false, cond}
use mathlib.Core.List.{List, [], ◌∷◌, ◌++◌, append-nil, append_assoc}
use lib.Dec.{ltb}
use lib.ListN.{length, take, drop, get_or, length-append, length-drop, drop_of_length-le, take-append-drop}
use lib.Seq.{drop-cons, take_all, length-take-le, take-append-add, drop-append-add}
use borrow.Author.Tests.{le-ltb}
use borrow.Rule.Slice.PartMut.{mid_of, put_mid}
use Rattle.rule.specs.Drawing.{event_no}
use Rattle.rule.specs.Refusals.{refuse_if}
use Rattle.rule.specs.declared.Refusal.{Refusal}
use Rattle.rule.specs.declared.Refusal.TheVariants.{Run as BadRun, Log}
use Rattle.rule.specs.Verdict.{Verdict}
use Rattle.sheet.specs.Opening.{opened_of, Opened}
use Rattle.sheet.specs.declared.Head.{Head}
use Rattle.effects.specs.Effects.{room_turn, memory_in, output_in, Turn, Answer}
use Rattle.effects.specs.declared.Run.{Run}
use Rattle.effects.proofs.KeptLaws.{away_of, ignored_of}
use Rattle.monitor.specs.Event.{unfit, look_of, turn_by, turn_of, StepPromise, EventPromise}
use Rattle.monitor.specs.Evening.{Entry, Outcome, idle, joined, go_on, calls_of, stands_by, ready_of, short_evening, evening_of}
use Rattle.monitor.specs.Evening.{report_of, Reports, EveningPromise, both_of}
use Rattle.monitor.specs.declared.Evening.{Evening}
use Rattle.monitor.proofs.CallsLaws.{calls_more}

-- with 11 or 12 nothing is taken, and else the evening is the single calls
module _ (sheet : List ℕ) (run : Run) (memory output : List ℕ) where
  pub stands_not : {x : Refusal} → stands_by (opened_of sheet) run (length memory) ≡ Err x → (log : List ℕ)
      → short_evening sheet run log memory output ≡ idle run memory output (Err x)
  unfolding calls_of look_of
  stands_not p [] = rw p
  stands_not {x} p (e ∷ es) =
      rw (by (opened_of sheet) p)
    where
      test : (t : Turn) (b : Bool) → refuse_if b BadRun ≡ Err x → cond b (Err BadRun) t ≡ Err x
      test t true p = cc
      test t false p = cc

      by : (o : Opened) → stands_by o run (length memory) ≡ Err x → turn_by o sheet run (event_no e) memory output ≡ Err x
      by (Err y) p = cc
      by (Ok h) p = ap (λ (t : Turn). room_turn t run.held (length memory) (length output)) (test _ (unfit h run (length memory)) p)

  pub stands : stands_by (opened_of sheet) run (length memory) ≡ Ok tt → (log : List ℕ)
      → short_evening sheet run log memory output ≡ calls_of sheet run log memory output
  unfolding calls_of
  stands p [] = rw p
  stands p (e ∷ es) = refl

-- where an evening may not begin nothing is taken, and else its events are taken one after another
module _ (sheet : List ℕ) (run : Run) (log memory output : List ℕ) where
  pub is_short : length log ≤ 4096 → evening_of sheet run log memory output ≡ short_evening sheet run log memory output
  unfolding evening_of
  is_short short = simp (le-ltb _ _ short)

  pub not_ready : {x : Refusal} → ready_of sheet run log (length memory) ≡ Err x → evening_of sheet run log memory output ≡ idle run memory output (Err x)
  unfolding evening_of
  not_ready {x} p = by (ltb 4096 (length log)) p
    where
      by : (long : Bool) → cond long (Err Log) (stands_by (opened_of sheet) run (length memory)) ≡ Err x
          → cond long (idle run memory output (Err Log)) (short_evening sheet run log memory output) ≡ idle run memory output (Err x)
      by true p = cc
      by false p = stands_not sheet run memory output p log

  pub is_ready : ready_of sheet run log (length memory) ≡ Ok tt → evening_of sheet run log memory output ≡ calls_of sheet run log memory output
  unfolding evening_of
  is_ready p = by (ltb 4096 (length log)) p
    where
      by : (long : Bool) → cond long (Err Log) (stands_by (opened_of sheet) run (length memory)) ≡ Ok tt
          → cond long (idle run memory output (Err Log)) (short_evening sheet run log memory output) ≡ calls_of sheet run log memory output
      by true p = cc
      by false p = stands sheet run memory output p log

  pub evening_none : {x : Refusal} {r : Evening} → ready_of sheet run log (length memory) ≡ Err x
      → r ≡ record { run = run; taken = 0; released = 0; ignored = 0; verdict = Err x } → EveningPromise sheet run log memory output r memory output
  evening_none p q = rw (not_ready p) (record { report = q; memory_after = refl; output_after = refl })

  pub evening_each : {s : List ℕ} {r : Evening} {memory' output' : List ℕ} → s ≡ sheet → ready_of sheet run log (length memory) ≡ Ok tt
      → Reports (calls_of s run log memory output) r memory' output' → EveningPromise sheet run log memory output r memory' output'
  evening_each same p q = rw (is_ready p) (rw same at q)

-- what was reported so far, and then what calls come to that get the unwritten rest of the output; the memory; and the output
abbrev pub so_far : Evening → (output : List ℕ) → Outcome → Evening × List ℕ × List ℕ
so_far v output x = (both_of v (report_of x), x.memory, take v.released output ++ (x.released ++ x.rest))

-- what is reported after so many events: those of them that were not ignored were taken
abbrev pub after : (passed : ℕ) → Evening → Evening
after passed v = record v { taken = passed - v.ignored }

-- what the loop keeps: what was reported so far, and then the calls from here, are what the calls of the whole log come to
pub record Going (sheet log memory₀ output₀ : List ℕ) (run : Run) (memory output : List ℕ) (passed : ℕ) (v : Evening) : Type 0 where
  pub sound : v.verdict ≡ Ok tt
  pub count : v.ignored ≤ passed
  pub released_in : v.released ≤ length output
  pub here : let x = calls_of sheet run log memory₀ output₀ in
      so_far (after passed v) output (calls_of sheet v.run (drop passed log) memory (drop v.released output)) ≡ (report_of x, x.memory, x.released ++ x.rest)

-- a turn of the loop
module _ {sheet log memory₀ output₀ : List ℕ} {run : Run} (memory output : List ℕ) {passed : ℕ} {v : Evening}
    (g : Going sheet log memory₀ output₀ run memory output passed v) where
  -- the calls may end here
  ended : (w : Verdict) → calls_of sheet v.run (drop passed log) memory (drop v.released output) ≡ idle v.run memory (drop v.released output) w
      → {r : Evening} → r ≡ record v { taken = passed - v.ignored; verdict = w } → Reports (calls_of sheet run log memory₀ output₀) r memory output
  ended w e q =
      let h = simp (e, add-zero) at g.here in
      record {
        report = q ∙ ap (λ (t : Evening × List ℕ × List ℕ). t.0) h;
        memory_after = ap (λ (t : Evening × List ℕ × List ℕ). t.1) h;
        output_after = sym (take-append-drop v.released output) ∙ ap (λ (t : Evening × List ℕ × List ℕ). t.2) h;
      }

  -- the log is over
  pub calls_over : length log ≤ passed → passed ≤ length log → {r : Evening} → r ≡ record v { taken = length log - v.ignored }
      → Reports (calls_of sheet run log memory₀ output₀) r memory output
  unfolding calls_of
  calls_over h within is = ended (Ok tt) (rw (drop_of_length-le log h)) (is ∙ rw (all, g.sound))
    where
      all : length log ≡ passed
      all = omega (arith, h, within)

  module _ {head : Head} (opened : Ok head ≡ opened_of sheet) (below : passed < length log) (r : Answer) (memory' part' : List ℕ)
      (p : StepPromise head sheet v.run (event_no (get_or log passed 0)) memory (mid_of v.released (length output - v.released) output) r memory' part') where
    abbrev code : ℕ
    code = get_or log passed 0

    abbrev rest : List ℕ
    rest = drop v.released output

    abbrev output' : List ℕ
    output' = put_mid v.released (length output - v.released) output part'

    long : length (take v.released output) ≡ v.released
    long = length-take-le v.released output g.released_in

    -- the part that was lent is the rest, and it comes back after what was written
    part : mid_of v.released (length output - v.released) output ≡ rest
    part = take_all (length output - v.released) rest (omega (arith, length-drop v.released output))

    put : output' ≡ take v.released output ++ part'
    put =
        let past : length rest ≤ length output - v.released = omega (arith, length-drop v.released output) in
        ap (λ (l : List ℕ). take v.released output ++ (part' ++ l)) (drop_of_length-le rest past)
        ∙ ap (λ (l : List ℕ). take v.released output ++ l) (append-nil part')

    -- what is written, and what is not, after n more
    written : (n : ℕ) → take (v.released + n) output' ≡ take v.released output ++ take n part'
    written n = rw put (ap (λ (i : ℕ). take (i + n) (take v.released output ++ part')) (sym long) ∙ take-append-add (take v.released output) part' n)

    unwritten : (n : ℕ) → drop (v.released + n) output' ≡ drop n part'
    unwritten n = rw put (ap (λ (i : ℕ). drop (i + n) (take v.released output ++ part')) (sym long) ∙ drop-append-add (take v.released output) part' n)

    promise : EventPromise sheet v.run (event_no code) memory rest r memory' part'
    promise = rw (← opened) (rw part at p)

    -- the calls from here, with this one at the front
    more : calls_of sheet v.run (drop passed log) memory rest
        ≡ go_on r code v.run memory' part' (λ next left rest. calls_of sheet next (drop (passed + 1) log) left rest)
    more =
        let c : drop passed log ≡ code ∷ drop (passed + 1) log = rw (add-one, drop-cons log passed 0) in
        rw c (calls_more sheet v.run code (drop (passed + 1) log) memory rest r memory' part' promise)

    pub goes_on : {t : Taken} → r ≡ Ok (Some t) → t.released ≤ length part' → {w : Evening}
        → w ≡ record v { run = t.run; released = v.released + t.released }
        → Going sheet log memory₀ output₀ run memory' output' (passed + 1) w
    goes_on {t} a fits is =
        let next = calls_of sheet t.run (drop (passed + 1) log) memory' (drop t.released part') in
        let now = take t.released part' in
        let one : List Entry = record { code = code; operation = t.operation } ∷ [] in
        let e : calls_of sheet v.run (drop passed log) memory rest ≡ joined one now [] next = rw a at more in
        let taken_more : passed + 1 - v.ignored + length next.taken ≡ passed - v.ignored + length (one ++ next.taken) = omega (arith, g.count) in
        let output_more = append_assoc (take v.released output) now (next.released ++ next.rest) in
        let released_more : v.released + t.released + length next.released ≡ v.released + length (now ++ next.released) =
        omega (arith, length-append now next.released, length-take-le t.released part' fits) in
        rw is (record {
          sound = g.sound;
          count = omega (arith, g.count);
          released_in = omega (arith, fits, ap length put, length-append (take v.released output) part', long);
          here = rw (written t.released, unwritten t.released)
              (rw (taken_more, released_more, output_more, ← append_assoc now next.released next.rest) (rw e at g.here));
        })

    -- an ignored or refused event leaves all as it was
    kept : (t : Turn) → memory_in t v.run.held code memory ≡ memory → output_in t v.run.held code memory rest ≡ rest
        → turn_of sheet v.run (event_no code) memory rest ≡ t → (memory' ≡ memory) × (part' ≡ rest) × (output' ≡ output)
    kept t m f q =
        let w : part' ≡ rest = promise.output_after ∙ rw q f in
        (promise.memory_after ∙ rw q m, w, put ∙ rw w (take-append-drop v.released output))

    -- an ignored one is passed
    pub goes_past : r ≡ Ok None → {w : Evening} → w ≡ record v { ignored = v.ignored + 1 }
        → Going sheet log memory₀ output₀ run memory' output' (passed + 1) w
    goes_past a is =
        let k = kept (Ok None) refl refl (ignored_of (turn_of sheet v.run (event_no code) memory rest) v.run.held (sym a ∙ promise.answer)) in
        let next = calls_of sheet v.run (drop (passed + 1) log) memory rest in
        let e : calls_of sheet v.run (drop passed log) memory rest ≡ joined [] [] (code ∷ []) next = rw (a, k.0, k.1) at more in
        let taken_same : passed + 1 - (v.ignored + 1) ≡ passed - v.ignored = omega arith in
        let ignored_more : v.ignored + 1 + length next.ignored ≡ v.ignored + length (code ∷ next.ignored) = omega arith in
        rw (is, k.0, k.2) (record {
          sound = g.sound;
          count = omega (arith, g.count);
          released_in = g.released_in;
          here = rw (taken_same, ignored_more) (rw e at g.here);
        })

    -- a refused one ends the calls
    pub calls_refused : {x : Refusal} → r ≡ Err x
        → Reports (calls_of sheet run log memory₀ output₀) (record v { taken = passed - v.ignored; verdict = Err x }) memory' output'
    calls_refused {x} q =
        let k = kept (Err x) refl refl (away_of (turn_of sheet v.run (event_no code) memory rest) v.run.held x (sym q ∙ promise.answer)) in
        rw (k.0, k.2) (ended (Err x) (more ∙ rw (q, k.0, k.1)) refl)
