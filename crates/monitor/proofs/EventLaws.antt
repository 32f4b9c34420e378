-- Refusal 12 of one event.
-- Assumes nothing.
use Prim.Native.Nat.{ℕ}
use mathlib.Core.Path.{◌≡◌, sym, ◌∙◌}
use mathlib.Core.Bool.{Bool, true}
use mathlib.Core.List.{List}
use Rattle.std.specs.Prelude.{Err}
use Rattle.rule.specs.declared.EventNo.{EventNo}
use Rattle.rule.specs.declared.Refusal.TheVariants.{Run as BadRun}
use Rattle.sheet.specs.declared.Head.{Head}
use Rattle.effects.specs.declared.Run.{Run}
use Rattle.monitor.specs.Event.{unfit, look_of}

pub run_12 : (h : Head) (sheet : List ℕ) (run : Run) (e : EventNo) (room : ℕ) {b : Bool} → b ≡ unfit h run room → b ≡ true
    → Err BadRun ≡ look_of h sheet run e room
unfolding look_of
run_12 h sheet run e room is p = rw (sym is ∙ p)
