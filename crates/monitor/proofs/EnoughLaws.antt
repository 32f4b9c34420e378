-- Room for an evening: an event takes at most one byte of the memory and one of the output, so what has a byte for each held event and each event of the log is
-- always enough.
-- Assumes nothing.
use Prim.Native.Nat.{ℕ, suc, ◌+◌, ◌≤◌, ◌<◌}
use native.Mathlib.Omega.{arith}
use mathlib.Core.Path.{◌≡◌, refl, ap, ◌∙◌}
use mathlib.Core.Bool.{false}
use mathlib.Core.Logic.{inr}
use mathlib.Core.List.{List, [], ◌∷◌, ◌++◌}
use lib.ListN.{length, take, drop, set, length-append, length-set, length-drop}
use lib.Seq.{length-take-le, drop_at}
use Rattle.std.specs.Prelude.{None, Some, Ok, Err}
use Rattle.rule.specs.Drawing.{event_no}
use Rattle.rule.specs.Given.{NoRow}
use Rattle.rule.specs.Refusals.{told_of, among}
use Rattle.rule.specs.declared.Operation.TheVariants.{Halt, Store, Dump}
use Rattle.rule.specs.declared.Refusal.{Refusal}
use Rattle.rule.specs.declared.Refusal.TheVariants.{Memory, Room}
use Rattle.rule.specs.declared.EventNo.{EventNo}
use Rattle.rule.specs.declared.StateNo.{StateNo}
use Rattle.rule.specs.declared.Operation.{Operation}
use Rattle.rule.proofs.BoolLaws.{clash}
use Rattle.rule.proofs.NumberLaws.{among_says}
use Rattle.rule.proofs.SetLaws.{below_or}
use Rattle.rule.proofs.TableLaws.{own_row}
use Rattle.effects.specs.Effects.{answer_in, memory_in, output_in, Turn, move}
use Rattle.effects.specs.declared.Run.{Run}
use Rattle.monitor.specs.Event.{turn_of}
use Rattle.monitor.specs.Evening.{Outcome, go_on, calls_of, evening_of}
use Rattle.monitor.specs.Given.{stand_order, held_past, memory_full, output_short, EventRow, standing, reading, RefusedAt}
use Rattle.monitor.specs.Given.{EveningRow, too_long, no_event, event_refused}
use Rattle.monitor.proofs.CallsLaws.{later}
use Rattle.monitor.proofs.EveningGivenLaws.{evening_within, evening_gives}
use Rattle.monitor.proofs.GivenLaws.{stand_within, event_within, taken_when}

-- so many events leave the memory as long as it was, at most so many more held, and of the output at most so many bytes fewer beyond what is held
record Left (events : ℕ) (run : Run) (memory output : List ℕ) (x : Outcome) : Type 0 where
  memory_long : length x.memory ≡ length memory
  held_most : x.run.held ≤ run.held + events
  rest_least : x.run.held + length output ≤ length x.rest + (run.held + events)

module _ (sheet : List ℕ) where
  abbrev Go : List ℕ → Type 0
  Go es = (next : Run) (left rest : List ℕ) → Left (length es) next left rest (calls_of sheet next es left rest)

  module _ (e : ℕ) (es : List ℕ) (go : Go es) (run : Run) (memory output : List ℕ) where
    abbrev T : Turn
    T = turn_of sheet run (event_no e) memory output

    abbrev Goes : Turn → Outcome
    Goes t = go_on (answer_in t run.held) e run (memory_in t run.held e memory) (output_in t run.held e memory output) (later sheet es)

    none_left : NoRow (EventRow sheet run (event_no e) (length memory) (length output)) → run.held ≤ length memory
    none_left none = below_or (length memory) run.held (λ h. absurd (none _ _ (standing (held_past h)))) (λ h. h)

    left_by : (t : Turn) → T ≡ t → Left (suc (length es)) run memory output (Goes t)
    left_by (Err x) q = record { memory_long = refl; held_most = omega arith; rest_least = omega arith }
    left_by (Ok None) q =
        let l = go run memory output in
        record { memory_long = l.memory_long; held_most = omega (arith, l.held_most); rest_least = omega (arith, l.rest_least) }
    left_by (Ok (Some m)) q = by m.operation m.next q
      where
        by : (o : Operation) (s : StateNo) → T ≡ move o s → Left (suc (length es)) run memory output (Goes (move o s))
        by Halt s q =
            let l = go (record { state = s; held = run.held }) memory output in
            record { memory_long = l.memory_long; held_most = omega (arith, l.held_most); rest_least = omega (arith, l.rest_least) }
        by Store s q =
            let l = go (record { state = s; held = run.held + 1 }) (set memory run.held e) output in
            record {
              memory_long = l.memory_long ∙ length-set memory run.held e;
              held_most = omega (arith, l.held_most);
              rest_least = omega (arith, l.rest_least);
            }
        by Dump s q =
            let w = (taken_when sheet run (event_no e) memory output Dump s).0 q in
            let space : run.held + 1 ≤ length output =
            below_or (length output) (run.held + 1) (λ h. absurd (w.0 _ _ (reading w.1 (output_short w.2 h)))) (λ h. h) in
            let front = take run.held memory ++ e ∷ [] in
            let long : length front ≡ run.held + 1 =
            length-append (take run.held memory) (e ∷ []) ∙ ap (λ (n : ℕ). n + 1) (length-take-le run.held memory (none_left w.0)) in
            let rest : drop (run.held + 1) (front ++ drop (run.held + 1) output) ≡ drop (run.held + 1) output =
            drop_at front (drop (run.held + 1) output) (run.held + 1) long in
            let l = go (record { state = s; held = 0 }) memory (drop (run.held + 1) output) in
            rw rest
            (record {
              memory_long = l.memory_long;
              held_most = omega (arith, l.held_most);
              rest_least = omega (arith, l.rest_least, length-drop (run.held + 1) output);
            })

  calls_left : (es : List ℕ) → Go es
  unfolding calls_of
  calls_left [] run memory output = record { memory_long = refl; held_most = omega arith; rest_least = omega arith }
  calls_left (e ∷ es) run memory output = left_by e es (calls_left es) run memory output _ refl

  -- what the rows 15 and 16 say
  full_row : (run : Run) (e : EventNo) (room space : ℕ) → EventRow sheet run e room space 15 Memory → room ≤ run.held
  full_row run e room space (standing r) = clash (stand_within sheet run room 15 Memory r).listed refl
  full_row run e room space (reading k (memory_full q a)) = a

  short_row : (run : Run) (e : EventNo) (room space : ℕ) → EventRow sheet run e room space 16 Room → space < run.held + 1
  short_row run e room space (standing r) = clash (stand_within sheet run room 16 Room r).listed refl
  short_row run e room space (reading k (output_short q a)) = a

  module _ (run : Run) (log memory output : List ℕ) where
    -- the events before a refused one leave so much, and are fewer than all
    module _ (x : Refusal) (R : RefusedAt sheet run log memory output x) where
      abbrev before : Outcome
      before = calls_of sheet run R.before memory output

      left : Left (length R.before) run memory output before
      left = calls_left R.before run memory output

      fewer : suc (length R.before) ≤ length log
      fewer = omega (arith, ap length R.whole, length-append R.before (R.event ∷ R.after))

      row : EventRow sheet before.run (event_no R.event) (length before.memory) (length before.rest) (told_of x).number x
      row = own_row (event_within sheet before.run (event_no R.event) before.memory before.rest) R.refused

    -- any number but 19, 11 and 12 is that of a refused event
    event_row : (n : ℕ) (x : Refusal) → among n (19 ∷ stand_order) ≡ false → EveningRow sheet run log memory output n x
        → RefusedAt sheet run log memory output x
    event_row n x other (too_long h) = clash refl other
    event_row n x other (no_event q r) = clash ((among_says n 19 stand_order).1 (inr (stand_within sheet run (length memory) n x r).listed)) other
    event_row n x other (event_refused s R q) = R

    refused_at : (x : Refusal) → among (told_of x).number (19 ∷ stand_order) ≡ false → (evening_of sheet run log memory output).verdict ≡ Err x
        → RefusedAt sheet run log memory output x
    refused_at x other p =
        event_row _ x other (own_row (evening_within sheet run memory output log) (evening_gives sheet run memory output log x p))

    -- an evening whose memory, or whose output, has a byte for each held event and each event of the log is not refused 15, or 16
    pub memory_enough : run.held + length log ≤ length memory → (evening_of sheet run log memory output).verdict ≡ Err Memory → ⊥
    memory_enough enough p =
        let R = refused_at Memory refl p in
        let l = left Memory R in
        omega (arith, full_row _ _ _ _ (row Memory R), l.memory_long, l.held_most, fewer Memory R)

    pub output_enough : run.held + length log ≤ length output → (evening_of sheet run log memory output).verdict ≡ Err Room → ⊥
    output_enough enough p =
        let R = refused_at Room refl p in
        omega (arith, short_row _ _ _ _ (row Room R), (left Room R).rest_least, fewer Room R)
