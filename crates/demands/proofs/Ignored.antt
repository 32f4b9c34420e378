-- What M-104 asks of ignored events holds (specs/Ignored). Assumes nothing.
use Prim.Native.Nat.{ℕ, ◌≤◌}
use mathlib.Core.Path.{◌≡◌, ◌∙◌}
use mathlib.Core.List.{List}
use Rattle.std.specs.Prelude.{None, Ok}
use Rattle.rule.specs.Drawing.{events}
use Rattle.rule.specs.Machine.{machine_of}
use Rattle.rule.specs.declared.EventNo.{EventNo}
use Rattle.rulefile.specs.Layout.{drawing_in}
use Rattle.effects.specs.declared.Run.{Run}
use Rattle.effects.specs.Effects.{Answer}
use Rattle.monitor.specs.Event.{EventPromise}
use Rattle.monitor.proofs.KnownLaws.{calls_heard, evening_heard, same_heard}
use Rattle.history.specs.Course.{Entry}
use Rattle.history.specs.History.{History}
use Rattle.history.proofs.HistoryLaws.{history_ignores}
use Rattle.history.proofs.IgnoredLaws.{left_out}
use Rattle.demands.specs.Made.{Made}
use Rattle.demands.specs.Ignored.{IgnoredDemand}
use Rattle.demands.proofs.MadeLaws.{made_lawful}

ignored_anywhere : (file sheet : List ℕ) → Made file sheet → {log : List Entry} {released : List ℕ} {run : Run} {memory : List ℕ}
    → History sheet log released run memory → (e : EventNo) → events (drawing_in file) ≤ e.0
    → (output : List ℕ) (r : Answer) (memory' output' : List ℕ) → EventPromise sheet run e memory output r memory' output'
    → (r ≡ Ok None) × (memory' ≡ memory) × (output' ≡ output)
ignored_anywhere file sheet made h e k output r memory' output' p =
    let M = made_lawful made in
    let t = history_ignores (machine_of (drawing_in file)) M.lawful sheet M.drawn h e k output in
    (p.answer ∙ rw t, p.memory_after ∙ rw t, p.output_after ∙ rw t)

pub ignored_demand : IgnoredDemand
ignored_demand =
    record {
      anywhere = ignored_anywhere;
      left_out = left_out;
      calls = λ sheet run log memory output s. calls_heard sheet log run memory output s;
      evening = evening_heard;
      same = same_heard;
    }
