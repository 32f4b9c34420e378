-- `reach::Moves::with_moves` meets its contract: the targets of a row, put in one by one. Assumes nothing.
use borrow.Author.Rules.{rules}
use native.Mathlib.Omega.{arith}
use Prim.Native.Nat.{ℕ}
use Rattle.std.proofs.lemmas.Iterator.{YieldsList-from_range}
use Rattle.std.proofs.lemmas.Iterator.Consumers.{fold_from_yields_List}
use Rattle.rule.specs.Reach.{target}
use Rattle.rule.specs.Sets.{including}
use Rattle.reach.proofs.StepLaws.{moves_row, moves_cells}
use Rattle.reach.proofs.Moves.with_moves.Goals as goal

pub returns-in-Some : goal.returns-in-Some
returns-in-Some c = search (rules, moves_row)

pub returns-in-None : goal.returns-in-None
returns-in-None c =
    let m = c.args.self in
    let put_in : ℕ → ℕ → ℕ = λ out e. including out (target m.table.now m.events c.args.s.0 e) in
    moves_cells _ _ _ _ _
    (fold_from_yields_List _ put_in _ _ c.fold-in-None.ensures.ran (YieldsList-from_range 0 m.events m.events (cc) (omega arith)) (λ x y b q k. search rules))
