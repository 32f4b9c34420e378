-- Each refusal of an event is given exactly when its row of the table holds and no earlier row does; where no row holds, an event is taken exactly when it is
-- under K, and else ignored; a refused or ignored event changes nothing. Assumes nothing.
use Prim.Native.Nat.{ℕ, ◌/◌, ◌%◌, ◌≤◌, ◌<◌}
use native.Mathlib.Omega.{arith}
use mathlib.Core.Path.{◌≡◌, refl, sym, ◌∙◌}
use mathlib.Core.Bool.{Bool, true, false, cond, not, ◌&&◌, ◌||◌}
use mathlib.Core.List.{List, [], ◌∷◌}
use mathlib.Core.Logic.Iff
use mathlib.Core.Logic.{◌⊎◌, inl, inr, ⊎_elim, ◌↔◌}
use lib.ListN.{length}
use lib.Dec.{leb, ltb, eqb}
use Rattle.std.specs.Prelude.{None, Some, Ok, Err}
use Rattle.rule.specs.Refusals.{Numbered, among, refuse_if, or_else}
use Rattle.rule.specs.Given.{Table, NoRow, Given, done, refused, Ends}
use Rattle.rule.specs.declared.StateNo.{StateNo}
use Rattle.rule.specs.declared.EventNo.{EventNo}
use Rattle.rule.specs.declared.Operation.{Operation}
use Rattle.rule.specs.declared.Operation.TheVariants.{Halt, Store, Dump}
use Rattle.rule.specs.declared.Refusal.{Refusal}
use Rattle.rule.specs.declared.Refusal.TheVariants.{Sheet as NoSheet, Run as BadRun, Cell, Memory, Room}
use Rattle.rule.specs.Verdict.{Verdict}
use Rattle.rule.proofs.BoolLaws.{Says, clash, eq_says, le_says, lt_says, and_says, or_says, fails_say, le_fails}
use borrow.Author.Tests.{le-leb, lt-leb, leb-true, leb-false}
use Rattle.rule.proofs.RefusalLaws.{not_both}
use Rattle.rule.proofs.TableLaws.{Within, Decides, Answers, decided, end, then, sound_exactly, numbers}
use Rattle.sheet.specs.Given.{BadSheet}
use Rattle.sheet.specs.Layout.{head_in}
use Rattle.sheet.specs.Opening.{opens, opened_of}
use Rattle.sheet.proofs.OpeningLaws.{shut_says}
use Rattle.effects.specs.Effects.{room_turn, answer_in, answer_told, memory_in, output_in, Turn, Answer, move}
use Rattle.effects.specs.declared.Run.{Run}
use Rattle.effects.proofs.KeptLaws.{ignored_of, move_one}
use Rattle.monitor.specs.Event.{unfit, cell_turn, look_of, turn_by, turn_of, EventPromise}
use Rattle.monitor.specs.Evening.{stands_by}
use Rattle.monitor.specs.Given.{cell_read, operation_read, next_read, bad_sheet, stand_order, StandRow, opening, state_past, held_past}
use Rattle.monitor.specs.Given.{operation_3, next_past, memory_full, output_short, event_order, EventRow, standing, reading, Ignores}

-- what a turn refuses
abbrev saying : Turn → Verdict
saying (Err x) = Err x
saying (Ok o) = Ok tt

saying_refused : (t : Turn) (x : Refusal) → (t ≡ Err x) ↔ (saying t ≡ Err x)
saying_refused (Err y) x = (λ p. cc, λ p. cc)
saying_refused (Ok o) x = (λ p. cc, not_both refl)

-- of the rows with these numbers the turn refuses by the first that holds, and else it comes to this
record Turns (T : Table) (order : List ℕ) (s t : Turn) : Type 0 where
  rows : Answers T order (saying t)
  comes : saying t ≡ Ok tt → t ≡ s

module _ {T : Table} {s : Turn} where
  test : (n : ℕ) (x : Refusal) {A : Type 0} {b : Bool} {l : List ℕ} {t : Turn} → Says b A → (A → T n x) → ((y : Refusal) → T n y → (x ≡ y) × A)
      → Turns T l s t → Turns T (n ∷ l) s (cond b (Err x) t)
  test n x {b = b} {l = l} {t = t} says to from r = by b (decided T n says to from)
    where
      by : (b : Bool) → Decides T n (refuse_if b x) → Turns T (n ∷ l) s (cond b (Err x) t)
      by true iff = record { rows = then {w = Ok tt} (Err x) iff (λ p. not_both p refl); comes = λ p. not_both p refl }
      by false iff = record { rows = then (Ok tt) iff (λ _. r.rows); comes = r.comes }

abbrev is_store : Operation → Bool
is_store Halt = false
is_store Store = true
is_store Dump = false

abbrev is_dump : Operation → Bool
is_dump Halt = false
is_dump Store = false
is_dump Dump = true

store_says : (o : Operation) → Says (is_store o) (o ≡ Store)
store_says Halt = (λ p. cc, λ p. cc)
store_says Store = (λ p. refl, λ p. refl)
store_says Dump = (λ p. cc, λ p. cc)

dump_says : (o : Operation) → Says (is_dump o) (o ≡ Dump)
dump_says Halt = (λ p. cc, λ p. cc)
dump_says Store = (λ p. cc, λ p. cc)
dump_says Dump = (λ p. refl, λ p. refl)

-- a run on a sheet: 11 and 12
module _ {sheet : List ℕ} {run : Run} {room : ℕ} where
  stand_11 : (y : Refusal) → StandRow sheet run room 11 y → (NoSheet ≡ y) × BadSheet sheet
  stand_11 y (opening (bad_sheet a)) = (refl, a)

  stand_12 : (y : Refusal) → StandRow sheet run room 12 y → (BadRun ≡ y) × (((head_in sheet).states ≤ run.state.0) ⊎ (room < run.held))
  stand_12 y (opening r) = elim r [ ]
  stand_12 y (state_past a) = (refl, inl a)
  stand_12 y (held_past a) = (refl, inr a)

  past : ((head_in sheet).states ≤ run.state.0) ⊎ (room < run.held) → StandRow sheet run room 12 BadRun
  past = ⊎_elim state_past held_past

pub stand_within : (sheet : List ℕ) (run : Run) (room : ℕ) → Within stand_order (StandRow sheet run room)
stand_within sheet run room n x (opening (bad_sheet a)) = record { number = refl; listed = refl }
stand_within sheet run room n x (state_past a) = record { number = refl; listed = refl }
stand_within sheet run room n x (held_past a) = record { number = refl; listed = refl }

past_stand : {sheet : List ℕ} {run : Run} {room n : ℕ} {x : Refusal} {A : Type 0} → StandRow sheet run room n x → among n stand_order ≡ false → A
past_stand r q = clash (stand_within _ _ _ _ _ r).listed q

pub stand_rows : (sheet : List ℕ) (run : Run) (room : ℕ) → Answers (StandRow sheet run room) stand_order (stands_by (opened_of sheet) run room)
unfolding opened_of
stand_rows sheet run room =
    rw (by (opens sheet))
    (then (refuse_if (not (opens sheet)) NoSheet) (decided (StandRow sheet run room) 11 (shut_says sheet) (λ a. opening (bad_sheet a)) stand_11)
    (λ _. then (refuse_if (unfit (head_in sheet) run room) BadRun)
    (decided (StandRow sheet run room) 12 (or_says (le_says (head_in sheet).states run.state.0) (lt_says room run.held)) past stand_12) (λ _. end)))
  where
    by : (a : Bool) → stands_by (cond a (Ok (head_in sheet)) (Err NoSheet)) run room
        ≡ or_else (refuse_if (not a) NoSheet) (or_else (refuse_if (unfit (head_in sheet) run room) BadRun) (Ok tt))
    by true = fine (unfit (head_in sheet) run room)
      where
        fine : (b : Bool) → refuse_if b BadRun ≡ or_else (refuse_if b BadRun) (Ok tt)
        fine true = refl
        fine false = refl
    by false = refl

module _ (sheet : List ℕ) (run : Run) (e : EventNo) (memory output : List ℕ) where
  abbrev T : Table
  T = EventRow sheet run e (length memory) (length output)

  pub event_within : Within event_order T
  event_within n x (standing (opening (bad_sheet a))) = record { number = refl; listed = refl }
  event_within n x (standing (state_past a)) = record { number = refl; listed = refl }
  event_within n x (standing (held_past a)) = record { number = refl; listed = refl }
  event_within n x (reading k (operation_3 a)) = record { number = refl; listed = refl }
  event_within n x (reading k (next_past a)) = record { number = refl; listed = refl }
  event_within n x (reading k (memory_full q a)) = record { number = refl; listed = refl }
  event_within n x (reading k (output_short q a)) = record { number = refl; listed = refl }

  abbrev N : ℕ
  N = (head_in sheet).states

  abbrev K : ℕ
  K = (head_in sheet).events

  abbrev cell : ℕ
  cell = cell_read sheet run e

  abbrev o : Operation
  o = operation_read sheet run e

  -- an event that no row refuses: ignored, or moved
  abbrev unrefused : (past : Bool) → Operation → StateNo → Turn
  unrefused past o n = cond past (Ok None) (move o n)

  -- the tests in order
  abbrev tested : Turn
  tested =
      cond (not (opens sheet)) (Err NoSheet)
      (cond (leb N run.state.0 || ltb (length memory) run.held) (Err BadRun)
      (cond (not (leb K e.0) && (eqb (cell / 64) 3 || leb N (cell % 64))) (Err (Cell run.state e))
      (cond (not (leb K e.0) && (is_store o && leb (length memory) run.held)) (Err Memory)
      (cond (not (leb K e.0) && (is_dump o && leb (length output) run.held)) (Err Room)
      (unrefused (leb K e.0) o (next_read sheet run e))))))

  -- those for room come last
  room_last : (b c d : Bool) (o : Operation) (n : StateNo)
      → room_turn (cond b (Err BadRun) (cond c (Ok None) (cond d (Err (Cell run.state e)) (move o n))))
      run.held (length memory) (length output)
      ≡ cond b (Err BadRun) (cond (not c && d) (Err (Cell run.state e))
      (cond (not c && (is_store o && leb (length memory) run.held)) (Err Memory)
      (cond (not c && (is_dump o && leb (length output) run.held)) (Err Room) (unrefused c o n))))
  room_last true c d o n = refl
  room_last false true d o n = refl
  room_last false false true o n = refl
  room_last false false false Halt n = refl
  room_last false false false Store n = refl
  room_last false false false Dump n = refl

  turn_tested : turn_of sheet run e memory output ≡ tested
  unfolding opened_of look_of cell_turn
  turn_tested =
      by (opens sheet)
      ∙ rw (room_last (leb N run.state.0 || ltb (length memory) run.held) (leb K e.0) (eqb (cell / 64) 3 || leb N (cell % 64)) o _)
    where
      by : (a : Bool) → turn_by (cond a (Ok (head_in sheet)) (Err NoSheet)) sheet run e memory output
          ≡ cond (not a) (Err NoSheet) (room_turn (look_of (head_in sheet) sheet run e (length memory)) run.held (length memory) (length output))
      by true = refl
      by false = refl

  by_11 : (y : Refusal) → T 11 y → (NoSheet ≡ y) × BadSheet sheet
  by_11 y (standing r) = stand_11 y r
  by_11 y (reading _ r) = elim r [ ]

  by_12 : (y : Refusal) → T 12 y → (BadRun ≡ y) × ((N ≤ run.state.0) ⊎ (length memory < run.held))
  by_12 y (standing r) = stand_12 y r
  by_12 y (reading _ r) = elim r [ ]

  by_14 : (y : Refusal) → T 14 y → (Cell run.state e ≡ y) × ((e.0 < K) × ((cell / 64 ≡ 3) ⊎ (N ≤ cell % 64)))
  by_14 y (standing r) = past_stand r refl
  by_14 y (reading k (operation_3 a)) = (refl, (k, inl a))
  by_14 y (reading k (next_past a)) = (refl, (k, inr a))

  by_15 : (y : Refusal) → T 15 y → (Memory ≡ y) × ((e.0 < K) × ((o ≡ Store) × (length memory ≤ run.held)))
  by_15 y (standing r) = past_stand r refl
  by_15 y (reading k (memory_full q a)) = (refl, (k, (q, a)))

  by_16 : (y : Refusal) → T 16 y → (Room ≡ y) × ((e.0 < K) × ((o ≡ Dump) × (length output ≤ run.held)))
  by_16 y (standing r) = past_stand r refl
  by_16 y (reading k (output_short q a)) = (refl, (k, (q, omega arith)))

  under : Says (not (leb K e.0)) (e.0 < K)
  under = fails_say (le_fails K e.0)

  over : (past : Bool) (o : Operation) (n : StateNo) → Turns T [] (unrefused past o n) (unrefused past o n)
  over true o n = record { rows = end; comes = λ p. refl }
  over false o n = record { rows = end; comes = λ p. refl }

  turns : Turns T event_order (unrefused (leb K e.0) o (next_read sheet run e)) (turn_of sheet run e memory output)
  turns =
      rw turn_tested
      (test 11 NoSheet (shut_says sheet) (λ a. standing (opening (bad_sheet a))) by_11
      (test 12 BadRun (or_says (le_says N run.state.0) (lt_says (length memory) run.held)) (λ a. standing (past a)) by_12
      (test 14 (Cell run.state e) (and_says under (or_says (eq_says (cell / 64) 3) (le_says N (cell % 64))))
      (λ a. reading a.0 (⊎_elim operation_3 next_past a.1)) by_14
      (test 15 Memory (and_says under (and_says (store_says o) (le_says (length memory) run.held)))
      (λ a. reading a.0 (memory_full a.1.0 a.1.1)) by_15
      (test 16 Room (and_says under (and_says (dump_says o) (le_says (length output) run.held)))
      (λ a. reading a.0 (output_short a.1.0 (omega (arith, a.1.1)))) by_16
      (over (leb K e.0) o (next_read sheet run e)))))))

  -- each refusal is given exactly when its row holds and no earlier one does
  pub refused_when : (x : Refusal) → (turn_of sheet run e memory output ≡ Err x) ↔ Given T x event_order
  refused_when x = Iff.trans (saying_refused (turn_of sheet run e memory output) x) (turns.rows.gives x)

  -- where no row holds, an event under K is taken, with the operation and the next state of the cell that is read, and any other is ignored
  comes_to : (t : Turn) → turn_of sheet run e memory output ≡ t → saying t ≡ Ok tt → NoRow T × (unrefused (leb K e.0) o (next_read sheet run e) ≡ t)
  comes_to t p q =
      let s : saying (turn_of sheet run e memory output) ≡ Ok tt = rw p q in
      ((sound_exactly event_within turns.rows).0 s, sym (turns.comes s) ∙ p)

  comes_from : NoRow T → turn_of sheet run e memory output ≡ unrefused (leb K e.0) o (next_read sheet run e)
  comes_from none = turns.comes ((sound_exactly event_within turns.rows).1 none)

  pub taken_when : (a : Operation) (t : StateNo)
      → (turn_of sheet run e memory output ≡ move a t) ↔ (NoRow T × (e.0 < K) × (o ≡ a) × (next_read sheet run e ≡ t))
  taken_when a t = (
    λ p. let c = comes_to (move a t) p refl in let m = to (leb K e.0) refl c.1 in (c.0, m.0, m.1, m.2),
    λ p. comes_from p.0 ∙ rw (lt-leb _ _ p.1, p.2, p.3),
  )
    where
      to : (b : Bool) → leb K e.0 ≡ b → unrefused b o (next_read sheet run e) ≡ move a t → (e.0 < K) × (o ≡ a) × (next_read sheet run e ≡ t)
      to true q m = cc
      to false q m = let e = move_one m in (leb-false _ _ q, e.0, e.1)

  -- with no cell read, the only rows are those of the run
  unread : K ≤ e.0 → NoRow (StandRow sheet run (length memory)) → NoRow T
  unread k none n x (standing r) = none n x r
  unread k none n x (reading u r) = omega (arith, k, u)

  pub ignored_when : (turn_of sheet run e memory output ≡ Ok None) ↔ (NoRow (StandRow sheet run (length memory)) × (K ≤ e.0))
  ignored_when = (
    λ p. let c = comes_to (Ok None) p refl in (λ n x r. c.0 n x (standing r), to (leb K e.0) refl c.1),
    λ p. comes_from (unread p.1 p.0) ∙ rw (le-leb _ _ p.1),
  )
    where
      to : (b : Bool) → leb K e.0 ≡ b → unrefused b o (next_read sheet run e) ≡ Ok None → K ≤ e.0
      to true q m = leb-true _ _ q
      to false q m = cc

  pub event_ignores : {r : Answer} {memory' output' : List ℕ} → EventPromise sheet run e memory output r memory' output'
      → Ignores sheet run e memory output r memory' output'
  event_ignores {r} p =
      let turn = turn_of sheet run e memory output in
      let from : r ≡ Ok None → turn ≡ Ok None = λ q. ignored_of turn run.held (sym q ∙ p.answer) in
      record {
        exactly = (λ q. ignored_when.0 (from q), λ w. p.answer ∙ rw (ignored_when.1 w));
        memory_kept = λ q. p.memory_after ∙ rw (from q);
        output_kept = λ q. p.output_after ∙ rw (from q);
      }

  -- a refused event has one of the numbers of the order
  pub turn_refuses : (x : Refusal) → turn_of sheet run e memory output ≡ Err x → Numbered event_order x
  turn_refuses x p = numbers event_within turns.rows x ((saying_refused _ x).0 p)

  -- how an event ends: a refused one leaves the memory and the output as they were
  pub event_ends : {r : Answer} {memory' output' : List ℕ} → EventPromise sheet run e memory output r memory' output'
      → Ends T event_order (answer_told r) ((memory' ≡ memory) × (output' ≡ output))
  event_ends {r} {memory'} {output'} p = by _ refl p.answer p.memory_after p.output_after
    where
      by : (t : Turn) → turn_of sheet run e memory output ≡ t → r ≡ answer_in t run.held → memory' ≡ memory_in t run.held e.0 memory
          → output' ≡ output_in t run.held e.0 memory output → Ends T event_order (answer_told r) ((memory' ≡ memory) × (output' ≡ output))
      by (Err x) q a m o = rw a (record { tells = refused ((refused_when x).0 q); rest = λ n. (m, o) })
      by (Ok None) q a m o = rw a (record { tells = done (comes_to (Ok None) q refl).0; rest = λ n. absurd (n refl) })
      by (Ok (Some t)) q a m o = rw a (record { tells = done (comes_to (Ok (Some t)) q refl).0; rest = λ n. absurd (n refl) })
