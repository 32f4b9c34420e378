-- Demand 3 holds of every history on every sheet that is made, also of the calls of a C program (specs/Demand3, specs/FromC). Assumes nothing.
use Prim.Native.Nat.{ℕ}
use mathlib.Core.Path.{sym, ap, ◌∙◌}
use mathlib.Core.List.{List, [], ◌∷◌, ◌++◌}
use Rattle.rule.specs.Machine.{machine_of}
use Rattle.rule.proofs.OperationLaws.{accepts_machine}
use Rattle.rulefile.specs.Layout.{drawing_in}
use Rattle.effects.specs.Effects.{Turn, answer_in}
use Rattle.effects.specs.declared.Run.{Run}
use Rattle.history.specs.Course.{Entry, codes}
use Rattle.history.specs.History.{History}
use Rattle.history.proofs.HistoryLaws.{history_kept, history_sharp, history_halted}
use Rattle.pachallu.specs.Told.{run_of}
use Rattle.demands.specs.Made.{Made}
use Rattle.demands.specs.Demand3.{Demand3}
use Rattle.demands.specs.FromC.{MadeForC, HistoryForC}
use Rattle.demands.proofs.MadeLaws.{made_lawful}
use Rattle.demands.proofs.FromCLaws.{c_made, c_history}

pub demand_3 : (file sheet : List ℕ) → Made file sheet → {log : List Entry} {released : List ℕ} {run : Run} {memory : List ℕ}
    → History sheet log released run memory → Demand3 (drawing_in file) sheet log released run memory
demand_3 file sheet made {log} {released} {run} {memory} h =
    let d = drawing_in file in
    let m = machine_of d in
    let M = made_lawful made in
    let L = M.lawful in
    let D = M.drawn in
    let K = history_kept m L sheet D h in
    record {
      rest = K.longest.rest;
      beginning = K.longest.beginning;
      accepted = accepts_machine d released ∙ K.longest.accepted;
      longest = λ p s q a. K.longest.longest p s q (sym (accepts_machine d p) ∙ a);
      whole = K.whole;
      halts_only = λ before after e q v known a. K.halts_only before after e q v known (sym (accepts_machine d ((codes before ++ e ∷ []) ++ v)) ∙ a);
      every_point = λ one before after x q hopeless.
          (history_sharp m L sheet D (M.sharp_one one) h).halts_at_each before after x q
          (λ v known a. hopeless v known (accepts_machine d ((codes before ++ x.code ∷ []) ++ v) ∙ a));
      halted = λ before after c q e k output r memory' output' p.
          p.answer ∙ ap (λ (t : Turn). answer_in t run.held) (history_halted m L sheet D h before after c q e k output);
    }

-- and so of what a C program does that follows the header
pub demand_3_from_C : (file sheet : List ℕ) → MadeForC file sheet → {log : List Entry} {released : List ℕ} {state held : ℕ} {memory : List ℕ}
    → HistoryForC sheet log released state held memory → Demand3 (drawing_in file) sheet log released (run_of state held) memory
demand_3_from_C file sheet made h = demand_3 file sheet (c_made made) (c_history h)
