-- What M-102 asks holds (specs/Why). Assumes nothing.
use Prim.Native.Nat.{ℕ, suc, ◌+◌, ◌/◌, ◌≤◌, ◌<◌}
use native.Mathlib.Omega.{arith}
use mathlib.Core.Path.{◌≡◌, refl, sym, ap, ◌∙◌}
use mathlib.Core.Bool.{true}
use mathlib.Core.Logic.{◌⊎◌, ⊎_elim}
use mathlib.Core.List.{List, [], ◌∷◌, ◌++◌, append_assoc}
use lib.ListN.{length, get_or, take, drop, length-append}
use lib.Seq.{take_at}
use Rattle.std.specs.Prelude.{Ok}
use Rattle.std.proofs.lemmas.List.{append_cancel_left}
use Rattle.rule.specs.Acceptance.{meets_all}
use Rattle.rule.specs.Drawing.{Drawing, states, events, count, initial, next}
use Rattle.rule.specs.Machine.{machine_of}
use Rattle.rule.specs.Given.{NoPair}
use Rattle.rule.specs.Operations.{operation_at, operation}
use Rattle.rule.specs.Reach.{after, place_of, more}
use Rattle.rule.specs.WellDrawn.{WellDrawn}
use Rattle.rule.specs.declared.Operation.TheVariants.{Halt}
use Rattle.rule.proofs.PairLaws.{says_meets_all}
use Rattle.rule.proofs.WayLaws.{after_append}
use Rattle.rulefile.specs.Layout.{drawing_in}
use Rattle.sheet.specs.Layout.{operation_of}
use Rattle.making.proofs.MakingLaws.{cell_operation}
use Rattle.effects.specs.declared.Run.{Run}
use Rattle.monitor.specs.Evening.{Outcome, evening_of, EveningPromise}
use Rattle.monitor.specs.declared.Evening.{Evening}
use Rattle.monitor.proofs.EveningGivenLaws.{codes_long, is_calls}
use Rattle.history.specs.Course.{Entry, codes}
use Rattle.history.specs.History.{History}
use Rattle.history.proofs.HistoryLaws.{mark_back, history_at, history_all, history_out}
use Rattle.history.proofs.CourseLaws.{codes_append}
use Rattle.history.proofs.EveningLaws.{evening_history}
use Rattle.history.proofs.RoomLaws.{AllTaken, calls_taken}
use Rattle.why.specs.Grounds.{Lost, Wanted, a_pair, all_pairs, goal, StoreGround}
use Rattle.why.specs.Why.{Says, held, WhyPromise}
use Rattle.why.specs.declared.Ground.{Ground}
use Rattle.why.specs.declared.Ground.TheVariants.{Held}
use Rattle.why.proofs.AnswerLaws.{Accepted, was_accepted, why_says, why_names, why_room}
use Rattle.why.proofs.GroundLaws.{goal_pair, goal_all, halt_when, store_when, dump_when, one_halt, one_store, way_some, way_few}
use Rattle.demands.specs.Made.{Made}
use Rattle.demands.specs.Why.{OfGrounds, OfAnswers, WayWorks, WayTaken, WhyDemand}
use Rattle.demands.proofs.MadeLaws.{made_lawful}

of_grounds : (d : Drawing) → WellDrawn d → (t : ℕ) → t < states d → OfGrounds d t
of_grounds d well t h =
    record {
      halt = halt_when d well t h;
      one_halt = one_halt;
      store = store_when d well t h;
      one_store = one_store;
      dump = dump_when d well t h;
      some = way_some d well t h;
      few = way_few d well t h;
    }

of_answers : (file : List ℕ) (s e : ℕ) (out : List ℕ) (g : Ground) (out' : List ℕ) → WhyPromise file s e out (Ok g) out'
    → OfAnswers file s e out g out'
of_answers file s e out g out' p =
    let d = drawing_in file in
    let a = was_accepted file s e out g out' p in
    record {
      says = why_says file s e out g out' p;
      cell = λ sheet made.
          let M = made_lawful made in
          let c : operation_of (get_or sheet (place_of (events d) s e) 0 / 64) ≡ operation d s e =
          ap (λ (l : List ℕ). operation_of (get_or l (place_of (events d) s e) 0 / 64)) M.sheet_is
          ∙ ap operation_of (cell_operation M.formed s e a.state_in a.event_in) ∙ mark_back (operation d s e) in
          rw c (why_names file s e out g out' p);
    }

-- the last entry of a log that is not empty
last_of : (x : Entry) (l : List Entry) → (before : List Entry) × (y : Entry) × (x ∷ l ≡ before ++ y ∷ [])
last_of x [] = ([], x, refl)
last_of x (y ∷ l) = let r = last_of y l in (x ∷ r.0, r.1, ap (λ (z : List Entry). x ∷ z) r.2)

split_of : (l : List Entry) (a b : List ℕ) (e : ℕ) → codes l ≡ a ++ e ∷ b → (before : List Entry) × (y : Entry) × (l ≡ before ++ y ∷ [])
split_of [] a b e q = absurd (omega (arith, ap length q, length-append a (e ∷ b)))
split_of (x ∷ l) a b e q = last_of x l

-- the way that stands at the front of the output, and the ground that it is of
way_told_is : {d : Drawing} {t : ℕ} {out out' : List ℕ} {i n : ℕ} → Says d t out out' (Held i n)
    → NoPair d (Lost d t) × StoreGround d t i (take n out') × (length (take n out') ≡ n)
way_told_is {out = out} {n = n} (held w free g size whole) =
    let front = take_at w (drop n out) n (sym size) in
    (free, rw (whole, front) g, rw (whole, front) (sym size))

module _ (file sheet : List ℕ) (made : Made file sheet) {log : List Entry} {released : List ℕ} {run : Run} {memory : List ℕ}
    (h : History sheet log released run memory) (e : ℕ) (out : List ℕ) (i n : ℕ) (out' : List ℕ)
    (p : WhyPromise file run.state.0 e out (Ok (Held i n)) out') where
  abbrev d : Drawing
  d = drawing_in file

  told : NoPair d (Lost d (next d run.state.0 e)) × StoreGround d (next d run.state.0 e) i (take n out') × (length (take n out') ≡ n)
  told = way_told_is (why_says file run.state.0 e out (Held i n) out' p)

  ground : StoreGround d (next d run.state.0 e) i (take n out')
  ground = told.1

  module _ {later : List Entry} {gone : List ℕ} {run' : Run} {memory' : List ℕ} (h' : History sheet later gone run' memory')
      (taken : codes later ≡ codes log ++ e ∷ take n out') where
    there : run'.state.0 ≡ after (next d) (next d run.state.0 e) (take n out')
    there =
        let M = made_lawful made in
        history_at (machine_of d) M.lawful sheet M.drawn h'
        ∙ ap (after (next d) (initial d)) taken
        ∙ after_append (next d) (initial d) (codes log) (e ∷ take n out')
        ∙ ap (λ (q : ℕ). after (next d) (next d q e) (take n out')) (sym (history_at (machine_of d) M.lawful sheet M.drawn h))

    met_there : goal d i run'.state.0 ≡ true
    met_there = rw there ground.way.meets.ends

    accepting : (d.shape.mode ≡ 1) ⊎ (count d ≡ 1) → meets_all d.pairs run'.state.0 ≡ true
    accepting one = by ground.wanted met_there
      where
        by : {j : ℕ} → Wanted d (next d run.state.0 e) j → goal d j run'.state.0 ≡ true → meets_all d.pairs run'.state.0 ≡ true
        by (all_pairs j some) m = sym (goal_all d (count d) j _) ∙ m
        by (a_pair {i = j} n l) m =
            ⊎_elim (λ k. absurd (n k))
            (λ k. (says_meets_all d.pairs run'.state.0).1
            (λ x b. let z : x ≡ j = omega (arith, (made_lawful made).well.whole, l.used) in rw z (sym (goal_pair d j n _) ∙ m)))
            one

    way_works : WayWorks d i later gone run'
    way_works =
        let M = made_lawful made in
        let last = split_of later (codes log) (take n out') e taken in
        record {
          met = met_there;
          dumps = λ one before x q. (history_out (machine_of d) M.lawful sheet M.drawn h' before x q (accepting one)).0;
          all_out = λ one. let o = history_out (machine_of d) M.lawful sheet M.drawn h' last.0 last.1 last.2 (accepting one) in (o.1, o.2);
        }

  -- with room, in one call
  module _ (output : List ℕ) (a : run.held + suc n ≤ length memory) (b : run.held + suc n ≤ length output) (r : Evening) (memory' output' : List ℕ)
      (q : EveningPromise sheet run (e ∷ take n out') memory output r memory' output') where
    abbrev es : List ℕ
    es = e ∷ take n out'

    abbrev x : Outcome
    x = evening_of sheet run es memory output

    asked : Accepted file run.state.0 e
    asked = was_accepted file run.state.0 e out (Held i n) out' p

    after_in : next d run.state.0 e < states d
    after_in = asked.well.closed run.state.0 e asked.state_in asked.event_in

    all_taken : AllTaken es x
    all_taken =
        let M = made_lawful made in
        let few = way_few d asked.well (next d run.state.0 e) after_in ground in
        let short = asked.well.few_states in
        rw (is_calls sheet run memory output e (take n out') (omega (arith, told.2)))
        (calls_taken (machine_of d) M.lawful sheet M.drawn (more asked.event_in ground.way.meets.known) run memory output asked.state_in
        (omega (arith, told.2)) (omega (arith, told.2)))

    after_all : History sheet (log ++ x.taken) (released ++ take r.released output') r.run memory'
    after_all = evening_history h es output r memory' output' q

    codes_all : codes (log ++ x.taken) ≡ codes log ++ es
    codes_all = codes_append log x.taken ∙ ap (λ (l : List ℕ). codes log ++ l) all_taken.taken

    not_halted : operation_at d run.state.0 ≡ Halt → ⊥
    not_halted o =
        let s = (store_when d asked.well (next d run.state.0 e) after_in).1 (told.0, (i, take n out', ground)) in
        let t = (made_lawful made).lawful.halt_stays run.state.0 e asked.state_in asked.event_in o in
        cc (s, t)

    gone_out : (released ++ take r.released output' ≡ codes (log ++ x.taken)) → take r.released output' ≡ take run.held memory ++ es
    gone_out all =
        let M = made_lawful made in
        append_cancel_left released _ _
        (all ∙ codes_all ∙ ap (λ (l : List ℕ). l ++ es) (sym (history_all (machine_of d) M.lawful sheet M.drawn h not_halted))
        ∙ append_assoc released (take run.held memory) es)

    way_taken : WayTaken d i run es memory r output'
    way_taken =
        let w = way_works after_all codes_all in
        record {
          sound = ap (λ (y : Evening). y.verdict) q.report ∙ all_taken.verdict;
          all = ap (λ (y : Evening). y.taken) q.report ∙ sym (codes_long x.taken) ∙ ap length all_taken.taken;
          met = w.met;
          all_out = λ one. let o = w.all_out one in (o.1, gone_out o.0);
        }

pub why_demand : WhyDemand
why_demand =
    record {
      grounds = of_grounds;
      answers = of_answers;
      room = why_room;
      taken = λ file sheet made h e out i n out' p output a b r memory' output' q. way_taken file sheet made h e out i n out' p output a b r memory' output' q;
      works = λ file sheet made h e out i n out' p h' taken. way_works file sheet made h e out i n out' p h' taken;
    }
