-- Laws of a fresh start, from the sheet that was opened.
-- Assumes nothing.
use Prim.Native.Nat.{ℕ}
use mathlib.Core.Path.{◌≡◌, refl, sym}
use mathlib.Core.List.{List}
use mathlib.Core.Logic.{◌↔◌}
use Rattle.std.specs.Prelude.{Ok, Err}
use Rattle.rule.specs.declared.Refusal.{Refusal}
use Rattle.rule.specs.declared.Refusal.TheVariants.{Sheet as NoSheet}
use Rattle.rule.specs.Given.{Given, here, later, NoRow, done, refused, Ends}
use Rattle.sheet.specs.Opening.{Opened, opened_of, opened_told}
use Rattle.sheet.specs.declared.Head.{Head}
use Rattle.sheet.proofs.OpeningLaws.{refused_when}
use Rattle.effects.specs.Effects.{answer_told}
use Rattle.monitor.specs.Fresh.{start_by, start_of}
use Rattle.monitor.specs.Given.{fresh_order, FreshRow, bad_sheet}

-- a sheet is refused for one reason alone, 11
pub sheet_shut : (sheet : List ℕ) {x : Refusal} → Err x ≡ opened_of sheet → Err NoSheet ≡ opened_of sheet
sheet_shut sheet {x} p = let w = (refused_when sheet x).0 (sym p) in rw w.1 p

pub start_shut : (sheet : List ℕ) {x : Refusal} → Err x ≡ opened_of sheet → Err NoSheet ≡ start_of sheet
start_shut sheet p = rw (← sheet_shut sheet p) refl

-- a fresh start is refused as the sheet is
start_refused : (o : Opened) (x : Refusal) → (start_by o ≡ Err x) ↔ (o ≡ Err x)
start_refused (Ok h) x = (λ p. cc, λ p. cc)
start_refused (Err y) x = (λ p. cc, λ p. cc)

-- a refusal is given exactly when its row of the table holds
pub fresh_gives : (sheet : List ℕ) (x : Refusal) → (start_of sheet ≡ Err x) ↔ Given (FreshRow sheet) x fresh_order
fresh_gives sheet x = (
  λ p. let w = (refused_when sheet x).0 ((start_refused (opened_of sheet) x).0 p) in rw (← w.1) (here (bad_sheet w.0)),
  λ g. elim g [ here r ↦ from r | later _ r ↦ elim r [ ] ],
)
  where
    from : {y : Refusal} → FreshRow sheet 11 y → start_of sheet ≡ Err y
    from (bad_sheet b) = rw ((refused_when sheet NoSheet).1 (b, refl))

module _ (sheet : List ℕ) where
  none : {h : Head} → opened_of sheet ≡ Ok h → NoRow (FreshRow sheet)
  none o n x (bad_sheet b) = cc (o, (refused_when sheet NoSheet).1 (b, refl))

  -- how opening a sheet ends, and so a fresh start: with 11 or with no refusal
  ends : (o : Opened) → opened_of sheet ≡ o → {Rest : Type 0} → (o ≡ Err NoSheet → Rest) → Ends (FreshRow sheet) fresh_order (opened_told o) Rest
  ends (Ok h) p rest = record { tells = done (none p); rest = λ n. absurd (n refl) }
  ends (Err x) p rest = let w = (refused_when sheet x).0 p in rw (← w.1) (record { tells = refused (here (bad_sheet w.0)); rest = λ n. rest (rw w.1) })

  start_told : (o : Opened) → answer_told (start_by o) ≡ opened_told o
  start_told (Ok h) = refl
  start_told (Err x) = refl

  pub fresh_ends : Ends (FreshRow sheet) fresh_order (answer_told (start_of sheet)) (start_of sheet ≡ Err NoSheet)
  fresh_ends = rw (start_told (opened_of sheet)) (ends (opened_of sheet) refl (λ e. rw e))

  pub open_ends : Ends (FreshRow sheet) fresh_order (opened_told (opened_of sheet)) (opened_of sheet ≡ Err NoSheet)
  open_ends = ends (opened_of sheet) refl (λ e. e)
