-- What a store that has room comes to.
-- Assumes nothing.
use Prim.Native.Nat.{ℕ, ◌+◌, ◌<◌}
use mathlib.Core.List.{List}
use lib.ListN.{length, set}
use borrow.Author.Tests.{lt-leb}
use Rattle.std.specs.Prelude.{Ok}
use Rattle.rule.specs.declared.StateNo.{StateNo}
use Rattle.rule.specs.declared.EventNo.{EventNo}
use Rattle.rule.specs.declared.Operation.TheVariants.{Store}
use Rattle.effects.specs.Effects.{StorePromise}
use Rattle.effects.specs.declared.Run.{Run}

pub stored : (next : StateNo) (run : Run) (e : EventNo) (memory : List ℕ) → run.held < length memory
    → StorePromise next run e memory (Ok (record { operation = Store; run = record { state = next; held = run.held + 1 }; released = 0 }))
    (set memory run.held e.0)
stored next run e memory a = let t = lt-leb _ _ a in record { answer = rw t; memory_after = rw t }
