-- The first event of an evening that is refused: it is found where the calls are refused, and ends them; no event after the first is refused 11 or 12.
-- Assumes nothing.
use Prim.Native.Nat.{ℕ, ◌<◌}
use native.Mathlib.Omega.{arith}
use mathlib.Core.Path.{◌≡◌, refl, ap, ◌∙◌}
use mathlib.Core.Bool.{true}
use mathlib.Core.List.{List, [], ◌∷◌, append-nil}
use lib.ListN.{length, take, drop, set, length-set}
use Rattle.std.specs.Prelude.{None, Some, Ok, Err}
use Rattle.rule.specs.Drawing.{event_no}
use Rattle.rule.specs.Given.{NoRow, Given}
use Rattle.rule.specs.Refusals.{told_of, among}
use Rattle.rule.specs.declared.StateNo.{StateNo}
use Rattle.rule.specs.declared.Operation.{Operation}
use Rattle.rule.specs.declared.Operation.TheVariants.{Halt, Store, Dump}
use Rattle.rule.specs.declared.Refusal.{Refusal}
use Rattle.rule.proofs.BoolLaws.{clash}
use Rattle.rule.proofs.RefusalLaws.{not_both}
use Rattle.rule.proofs.TableLaws.{own_row, sound_exactly}
use Rattle.sheet.specs.Opening.{opened_of}
use Rattle.sheet.specs.Layout.{head_in}
use borrow.Author.Tests.{le-ltb, lt-ltb}
use Rattle.effects.specs.Effects.{taken_by, answer_in, memory_by, memory_in, output_in, Turn, Answer}
use Rattle.effects.specs.declared.Run.{Run}
use Rattle.effects.proofs.KeptLaws.{away_of}
use Rattle.monitor.specs.Event.{turn_of, EventPromise}
use Rattle.monitor.specs.Evening.{Entry, codes, Outcome, joined, go_on, calls_of, stands_by}
use Rattle.monitor.specs.Given.{StandRow, stand_order, opening, state_past, held_past, operation_3, next_past, memory_full, output_short}
use Rattle.monitor.specs.Given.{EventRow, event_order, standing, reading, next_read, operation_read, RefusedAt}
use Rattle.monitor.specs.Known.{known, remarks}
use Rattle.monitor.proofs.CallsLaws.{later, calls_more, kept_by_turn, calls_append}
use Rattle.monitor.proofs.GivenLaws.{stand_within, stand_rows, event_within, refused_when, taken_when, event_ignores}
use Rattle.effects.specs.declared.Taken.{Taken}

-- the calls up to a refusal, and then it
abbrev pub stopped : Outcome → Refusal → Outcome
stopped x r = record x { verdict = Err r }

-- a log with an event in it is not the empty one
pub some_none : {e : ℕ} {es : List ℕ} → e ∷ es ≡ [] → ⊥
some_none q = omega (arith, ap length q)

module _ (sheet : List ℕ) where
  -- a refused call changes nothing
  pub refused_call : (run : Run) (e : ℕ) (memory output : List ℕ) (x : Refusal)
      → Given (EventRow sheet run (event_no e) (length memory) (length output)) x event_order
      → EventPromise sheet run (event_no e) memory output (Err x) memory output
  refused_call run e memory output x g =
      let t = (refused_when sheet run (event_no e) memory output x).1 g in
      record { answer = rw t; memory_after = rw t; output_after = rw t }

  -- the first event that is refused after one that is not
  one_before : {run : Run} {e : ℕ} {es memory output : List ℕ} {x : Refusal} {next : Run} {left rest : List ℕ} (R : RefusedAt sheet next es left rest x)
      (taken : List Entry) (released ignored : List ℕ)
      → calls_of sheet run (e ∷ R.before) memory output ≡ joined taken released ignored (calls_of sheet next R.before left rest)
      → RefusedAt sheet run (e ∷ es) memory output x
  one_before {e = e} R taken released ignored m =
      record {
        before = e ∷ R.before;
        event = R.event;
        after = R.after;
        whole = ap (λ (l : List ℕ). e ∷ l) R.whole;
        none_refused = ap (λ (y : Outcome). y.verdict) m ∙ R.none_refused;
        refused = rw m R.refused;
      }

  -- where the calls are refused there is a first event that is
  found_by : (run : Run) (e : ℕ) (es memory output : List ℕ) (x : Refusal)
      → ((next : Run) (left rest : List ℕ) → (calls_of sheet next es left rest).verdict ≡ Err x → RefusedAt sheet next es left rest x)
      → (r : Answer) (memory' output' : List ℕ) → EventPromise sheet run (event_no e) memory output r memory' output'
      → (go_on r e run memory' output' (later sheet es)).verdict ≡ Err x → RefusedAt sheet run (e ∷ es) memory output x
  unfolding calls_of
  found_by run e es memory output x go (Err y) memory' output' p q =
      let s : y ≡ x = cc in
      let t = away_of (turn_of sheet run (event_no e) memory output) run.held y p.answer in
      record {
        before = [];
        event = e;
        after = es;
        whole = refl;
        none_refused = refl;
        refused = (refused_when sheet run (event_no e) memory output x).0 (t ∙ ap Err s);
      }
  found_by run e es memory output x go (Ok None) memory' output' p q =
      let R = go run memory' output' q in one_before R [] [] (e ∷ []) (calls_more sheet run e R.before memory output (Ok None) memory' output' p)
  found_by run e es memory output x go (Ok (Some t)) memory' output' p q =
      let R = go t.run memory' (drop t.released output') q in
      one_before R (record { code = e; operation = t.operation } ∷ []) (take t.released output') []
      (calls_more sheet run e R.before memory output (Ok (Some t)) memory' output' p)

  pub found : (log : List ℕ) (run : Run) (memory output : List ℕ) (x : Refusal) → (calls_of sheet run log memory output).verdict ≡ Err x
      → RefusedAt sheet run log memory output x
  unfolding calls_of
  found [] run memory output x p = not_both refl p
  found (e ∷ es) run memory output x p =
      found_by run e es memory output x (λ next left rest q. found es next left rest x q) _ _ _ (kept_by_turn sheet run e memory output) p

  -- and it ends them
  pub found_ends : (run : Run) (log memory output : List ℕ) (x : Refusal) (R : RefusedAt sheet run log memory output x)
      → calls_of sheet run log memory output ≡ stopped (calls_of sheet run R.before memory output) x
  found_ends run log memory output x R =
      let left = calls_of sheet run R.before memory output in
      let p = refused_call left.run R.event left.memory left.rest x R.refused in
      ap (λ (l : List ℕ). calls_of sheet run l memory output) R.whole
      ∙ calls_append sheet R.before (R.event ∷ R.after) run memory output R.none_refused
      ∙ ap (joined left.taken left.released left.ignored)
      (calls_more sheet left.run R.event R.after left.memory left.rest (Err x) left.memory left.rest p)
      ∙ rw (append-nil left.taken, append-nil left.released, append-nil left.ignored)

  abbrev K : ℕ
  K = (head_in sheet).events

  -- an event that is taken is under K
  pub taken_under : {run : Run} {e : ℕ} {memory output : List ℕ} {t : Taken} {memory' output' : List ℕ}
      → EventPromise sheet run (event_no e) memory output (Ok (Some t)) memory' output' → e < K
  taken_under {run} {e} {memory} {output} {t} p = by _ refl p.answer
    where
      by : (u : Turn) → turn_of sheet run (event_no e) memory output ≡ u → Ok (Some t) ≡ answer_in u run.held → e < K
      by (Err y) q a = cc
      by (Ok None) q a = cc
      by (Ok (Some m)) q a = ((taken_when sheet run (event_no e) memory output m.operation m.next).0 q).1

  -- where no event is refused, all of the log is taken but what is not under K, and that is ignored
  abbrev All : Outcome → List ℕ → Type 0
  All x log = (codes x.taken ≡ known K log) × (x.ignored ≡ remarks K log)

  all_by : (e : ℕ) (es : List ℕ) (run : Run) (memory output : List ℕ)
      → ((next : Run) (left rest : List ℕ) → (calls_of sheet next es left rest).verdict ≡ Ok tt → All (calls_of sheet next es left rest) es)
      → (r : Answer) (memory' output' : List ℕ) → EventPromise sheet run (event_no e) memory output r memory' output'
      → let x = go_on r e run memory' output' (later sheet es) in x.verdict ≡ Ok tt → All x (e ∷ es)
  unfolding known remarks
  all_by e es run memory output go (Err y) memory' output' p v = not_both v refl
  all_by e es run memory output go (Ok None) memory' output' p v =
      let k = le-ltb _ _ ((event_ignores sheet run (event_no e) memory output p).exactly.0 refl).1 in
      let i = go run memory' output' v in
      (rw k i.0, rw k (ap (λ (l : List ℕ). e ∷ l) i.1))
  all_by e es run memory output go (Ok (Some t)) memory' output' p v =
      let k = lt-ltb _ _ (taken_under p) in
      let i = go t.run memory' (drop t.released output') v in
      (rw k (ap (λ (l : List ℕ). e ∷ l) i.0), rw k i.1)

  pub all_passed : (log : List ℕ) (run : Run) (memory output : List ℕ) → (calls_of sheet run log memory output).verdict ≡ Ok tt
      → All (calls_of sheet run log memory output) log
  unfolding calls_of known remarks
  all_passed [] run memory output p = (refl, refl)
  all_passed (e ∷ es) run memory output p =
      all_by e es run memory output (λ next left rest q. all_passed es next left rest q) _ _ _ (kept_by_turn sheet run e memory output) p

  -- after an event that is taken the run is one that 11 and 12 do not refuse
  module _ (run : Run) (e : ℕ) (memory output : List ℕ) (none : NoRow (EventRow sheet run (event_no e) (length memory) (length output)))
      (under : e < K) where
    stand_next : (next : Run) (room : ℕ) → next_read sheet run (event_no e) ≡ next.state → (room < next.held → ⊥) → NoRow (StandRow sheet next room)
    stand_next next room s held n x (opening b) = none n x (standing (opening b))
    stand_next next room s held n x (state_past a) = none _ _ (reading under (next_past (omega (arith, a, ap (λ (q : StateNo). q.0) s))))
    stand_next next room s held n x (held_past a) = held a

    stand_by : (o : Operation) (t : StateNo) → operation_read sheet run (event_no e) ≡ o → next_read sheet run (event_no e) ≡ t
        → NoRow (StandRow sheet (taken_by o t run.held).run (length (memory_by o run.held e memory)))
    stand_by Halt t q s = stand_next (taken_by Halt t run.held).run (length memory) s (λ l. none _ _ (standing (held_past l)))
    stand_by Store t q s =
        let long : length (set memory run.held e) ≡ length memory = simp length-set in
        stand_next (taken_by Store t run.held).run _ s (λ l. none _ _ (reading under (memory_full q (omega (arith, l, long)))))
    stand_by Dump t q s = stand_next (taken_by Dump t run.held).run (length memory) s (λ l. omega (arith, l))

  pub taken_stands : (run : Run) (e : ℕ) (memory output : List ℕ) (t : Taken) (memory' output' : List ℕ)
      → EventPromise sheet run (event_no e) memory output (Ok (Some t)) memory' output' → stands_by (opened_of sheet) t.run (length memory') ≡ Ok tt
  taken_stands run e memory output t memory' output' p = by _ refl p.answer p.memory_after
    where
      by : (u : Turn) → turn_of sheet run (event_no e) memory output ≡ u → Ok (Some t) ≡ answer_in u run.held → memory' ≡ memory_in u run.held e memory
          → stands_by (opened_of sheet) t.run (length memory') ≡ Ok tt
      by (Err y) q a m = cc
      by (Ok None) q a m = cc
      by (Ok (Some u)) q a m =
          let w = (taken_when sheet run (event_no e) memory output u.operation u.next).0 q in
          let same : t ≡ taken_by u.operation u.next run.held = cc in
          rw (same, m) ((sound_exactly (stand_within sheet _ _) (stand_rows sheet _ _)).1 (stand_by run e memory output w.0 w.1 u.operation u.next w.2 w.3))

  -- and so is the run of an event that is ignored
  pub ignored_stands : (run : Run) (e : ℕ) (memory output memory' output' : List ℕ)
      → EventPromise sheet run (event_no e) memory output (Ok None) memory' output' → stands_by (opened_of sheet) run (length memory) ≡ Ok tt
  ignored_stands run e memory output memory' output' p =
      (sound_exactly (stand_within sheet run (length memory)) (stand_rows sheet run (length memory))).1
      ((event_ignores sheet run (event_no e) memory output p).exactly.0 refl).0

  -- so after a log with an event in it, none refused, it is
  abbrev pub Stands : Outcome → Type 0
  Stands x = x.verdict ≡ Ok tt → stands_by (opened_of sheet) x.run (length x.memory) ≡ Ok tt

  stand_on_by : (e : ℕ) (es : List ℕ) (run : Run) (memory output : List ℕ)
      → ((next : Run) (left rest : List ℕ) → stands_by (opened_of sheet) next (length left) ≡ Ok tt → Stands (calls_of sheet next es left rest))
      → (r : Answer) (memory' output' : List ℕ) → EventPromise sheet run (event_no e) memory output r memory' output'
      → Stands (go_on r e run memory' output' (later sheet es))
  stand_on_by e es run memory output go (Err y) memory' output' p q = not_both q refl
  stand_on_by e es run memory output go (Ok None) memory' output' p q =
      let i = event_ignores sheet run (event_no e) memory output p in
      let s : stands_by (opened_of sheet) run (length memory') ≡ Ok tt = rw (i.memory_kept refl) (ignored_stands run e memory output memory' output' p) in
      go run memory' output' s q
  stand_on_by e es run memory output go (Ok (Some t)) memory' output' p q =
      go t.run memory' (drop t.released output') (taken_stands run e memory output t memory' output' p) q

  pub stand_on : (es : List ℕ) (run : Run) (memory output : List ℕ) → (es ≡ [] → stands_by (opened_of sheet) run (length memory) ≡ Ok tt)
      → Stands (calls_of sheet run es memory output)
  unfolding calls_of
  stand_on [] run memory output s p = s refl
  stand_on (e ∷ es) run memory output s p =
      let t = turn_of sheet run (event_no e) memory output in
      stand_on_by e es run memory output (λ next left rest s. stand_on es next left rest (λ _. s))
      (answer_in t run.held) (memory_in t run.held e memory) (output_in t run.held e memory output) (kept_by_turn sheet run e memory output) p

  pub calls_stand : (e : ℕ) (es : List ℕ) (run : Run) (memory output : List ℕ) → Stands (calls_of sheet run (e ∷ es) memory output)
  calls_stand e es run memory output = stand_on (e ∷ es) run memory output (λ q. absurd (some_none q))

  -- 11 and 12 are rows of the run and not of the event
  standing_row : {run : Run} {e room space n : ℕ} {x : Refusal} → EventRow sheet run (event_no e) room space n x → among n stand_order ≡ true
      → StandRow sheet run room n x
  standing_row (standing r) q = r
  standing_row (reading k (operation_3 a)) q = clash q refl
  standing_row (reading k (next_past a)) q = clash q refl
  standing_row (reading k (memory_full o a)) q = clash q refl
  standing_row (reading k (output_short o a)) q = clash q refl

  -- no event but the first is refused with one of these
  pub first_only : (run : Run) (memory output : List ℕ) (x : Refusal) → among (told_of x).number stand_order ≡ true → (before : List ℕ) (event : ℕ)
      → let left = calls_of sheet run before memory output in left.verdict ≡ Ok tt
      → Given (EventRow sheet left.run (event_no event) (length left.memory) (length left.rest)) x event_order → before ≡ []
  first_only run memory output x a [] event s g = refl
  first_only run memory output x a (b ∷ bs) event s g =
      let left = calls_of sheet run (b ∷ bs) memory output in
      let stand = (sound_exactly (stand_within sheet left.run (length left.memory)) (stand_rows sheet left.run (length left.memory))).0
      (calls_stand b bs run memory output s) in
      absurd (stand _ _ (standing_row (own_row (event_within sheet left.run (event_no event) left.memory left.rest) g) a))
