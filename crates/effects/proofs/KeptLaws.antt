-- What a turn leaves: one answer and one content of the buffers, and after a refusal the buffers as they were.
-- Assumes nothing.
use Prim.Native.Nat.{ℕ}
use native.Mathlib.Omega.{arith}
use mathlib.Core.Path.{◌≡◌, refl, ap, ◌∙◌}
use mathlib.Core.List.{List, [], ◌∷◌}
use lib.ListN.{length}
use Rattle.std.specs.Prelude.{Some, None, Result, Ok, Err}
use Rattle.rule.specs.declared.StateNo.{StateNo}
use Rattle.rule.specs.declared.EventNo.{EventNo}
use Rattle.rule.specs.declared.Refusal.{Refusal}
use Rattle.effects.specs.Effects.{Turn, move, answer_in, answered, memory_in, output_in, TurnPromise, StorePromise, DumpPromise}
use Rattle.effects.specs.Effects.{OneAnswer, answer_told, StoreTable, store_order, DumpTable, dump_order}
use Rattle.effects.specs.declared.Run.{Run}
use Rattle.effects.specs.declared.Move.{Move}
use Rattle.effects.specs.declared.Taken.{Taken}
use Rattle.rule.specs.Given.{NoRow, NoRows, here, After, row, last, done, refused, Ends}
use Rattle.rule.proofs.BoolLaws.{Says, in_words, le_says, clash}
use Rattle.rule.specs.Refusals.{tell, told_of}
use Rattle.rule.specs.declared.Told.{Told}
use Rattle.rule.specs.declared.Operation.{Operation}
use Rattle.rule.specs.declared.Operation.TheVariants.{Store, Dump}
use Rattle.rule.specs.declared.Refusal.TheVariants.{Memory, Room}
use mathlib.Core.Bool.{Bool, true, false, cond}
use lib.Dec.{leb}

-- a refused answer comes of a refused turn
pub away_of : (t : Turn) (held : ℕ) (x : Refusal) → Err x ≡ answer_in t held → t ≡ Err x
away_of (Err y) held x p = cc
away_of (Ok None) held x p = cc
away_of (Ok (Some m)) held x p = cc

-- an ignored answer comes of an ignored turn
pub ignored_of : (t : Turn) (held : ℕ) → Ok None ≡ answer_in t held → t ≡ Ok None
ignored_of (Err y) held p = cc
ignored_of (Ok None) held p = refl
ignored_of (Ok (Some m)) held p = cc

-- equal moves have equal operations, and lead to the same state
pub move_one : {a b : Operation} {s t : StateNo} → move a s ≡ move b t → (a ≡ b) × (s ≡ t)
move_one {a} {b} {s} {t} p =
    let e : ◌≡◌ {A = Move} (record { operation = a; next = s }) (record { operation = b; next = t }) = cc in (
      ap (λ (m : Move). m.operation) e,
      ap (λ (m : Move). m.next) e,
    )

-- calls that ignore no event, with one answer, came to the same
pub answered_one : (r s : Result Taken Refusal) → answered r ≡ answered s → r ≡ s
answered_one (Ok a) (Ok b) p = cc
answered_one (Ok a) (Err y) p = cc
answered_one (Err x) (Ok b) p = cc
answered_one (Err x) (Err y) p = cc

-- a turn has one answer, and one memory and output after it
pub turn_one : (t : Turn) (run : Run) (e : EventNo) (memory output : List ℕ) → OneAnswer (TurnPromise t run e memory output)
turn_one t run e memory output =
    record {
      answer = answer_in t run.held;
      memory = memory_in t run.held e.0 memory;
      output = output_in t run.held e.0 memory output;
      kept = record { answer = refl; memory_after = refl; output_after = refl };
      only = λ r m out p. (p.answer, p.memory_after, p.output_after);
    }

-- how a call with one row ends: it is refused exactly where its test holds, which says what the row says
one_ends : {n : ℕ} {x : Refusal} {A Rest : Type 0} (b : Bool) → Says b A → {told : Told} → told ≡ cond b (told_of x) (tell 0 0 0) → (b ≡ true → Rest)
    → Ends (After NoRows n x A) (n ∷ []) told Rest
one_ends true says t rest = rw t (record { tells = refused (here (last (says.0 refl))); rest = λ n. rest refl })
one_ends {n} {x} {A} false says t rest = rw t (record { tells = done none; rest = λ n. absurd (n refl) })
  where
    none : NoRow (After NoRows n x A)
    none m y (row r) = elim r [ ]
    none m y (last a) = clash (says.1 a) refl

-- what a store or a dump tells: the refusal where its test holds
step_told : (r : Result Taken Refusal) (b : Bool) (x : Refusal) (o : Operation) (t : StateNo) (held : ℕ)
    → answered r ≡ answer_in (cond b (Err x) (move o t)) held → answer_told r ≡ cond b (told_of x) (tell 0 0 0)
step_told (Ok a) true x o t held p = cc
step_told (Ok a) false x o t held p = refl
step_told (Err y) true x o t held p = let e : y ≡ x = cc in rw e
step_told (Err y) false x o t held p = cc

-- how a store and a dump end: a refused one leaves the memory, or the output, as it was
pub store_ends : {next : StateNo} {run : Run} {e : EventNo} {memory : List ℕ} {r : Result Taken Refusal} {memory' : List ℕ}
    → StorePromise next run e memory r memory' → Ends (StoreTable run.held (length memory)) store_order (answer_told r) (memory' ≡ memory)
store_ends {next} {run} {memory = memory} {r = r} p =
    one_ends (leb (length memory) run.held) (le_says _ _) (step_told r _ Memory Store next run.held p.answer) (λ full. p.memory_after ∙ rw full)

pub dump_ends : {next : StateNo} {held : List ℕ} {e : EventNo} {output : List ℕ} {r : Result Taken Refusal} {output' : List ℕ}
    → DumpPromise next held e output r output' → Ends (DumpTable (length held) (length output)) dump_order (answer_told r) (output' ≡ output)
dump_ends {next} {held} {output = output} {r = r} p =
    one_ends (leb (length output) (length held)) (in_words (le_says _ _) (λ a. omega arith) (λ a. omega arith))
    (step_told r _ Room Dump next (length held) p.answer) (λ full. p.output_after ∙ rw full)
