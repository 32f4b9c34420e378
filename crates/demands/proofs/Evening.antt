-- What M-101 asks of an evening holds (specs/Evening). Assumes nothing.
use Prim.Native.Nat.{ℕ}
use mathlib.Core.Path.{◌≡◌, sym, ap, ◌∙◌}
use mathlib.Core.List.{List}
use lib.ListN.{length}
use Rattle.sheet.specs.Layout.{head_in}
use Rattle.effects.specs.declared.Run.{Run}
use Rattle.monitor.specs.Evening.{evening_of, EveningPromise}
use Rattle.monitor.specs.declared.Evening.{Evening}
use Rattle.monitor.proofs.EveningGivenLaws.{codes_long, parts_long, evening_passed, evening_19_when, empty_when, first_alone}
use Rattle.monitor.proofs.EnoughLaws.{memory_enough, output_enough}
use Rattle.monitor.proofs.TwoLaws.{evening_calls, two_evenings}
use Rattle.history.proofs.EveningLaws.{evening_history}
use Rattle.demands.specs.Evening.{OfEvenings, EveningDemand}
use Rattle.demands.proofs.Demand3.{demand_3}

of_evenings : (sheet : List ℕ) (run : Run) (log memory output : List ℕ) (r : Evening) (memory' output' : List ℕ)
    → EveningPromise sheet run log memory output r memory' output' → OfEvenings sheet run log memory output r memory' output'
of_evenings sheet run log memory output r memory' output' p =
    let x = evening_of sheet run log memory output in
    let v : r.verdict ≡ x.verdict = ap (λ (y : Evening). y.verdict) p.report in
    let n : r.taken ≡ length x.taken = ap (λ (y : Evening). y.taken) p.report in
    let i : r.ignored ≡ length x.ignored = ap (λ (y : Evening). y.ignored) p.report in
    let f = evening_passed sheet run memory output log in
    record {
      single_calls = λ e es q short. rw q ((evening_calls sheet run e es memory output (rw q at short) r memory' output').0 (rw q at p));
      passed = f;
      count_taken = n;
      count_ignored = i;
      count = rw (n, i, ← codes_long x.taken, f.taken, f.ignored) (parts_long (head_in sheet).events f.front);
      too_long = rw v (evening_19_when sheet run memory output log);
      empty = λ q y. rw (v, q) (empty_when sheet run memory output y);
      first_only = λ y q a. let z = first_alone sheet run memory output log y (sym v ∙ q) a in (n ∙ ap length z.0, i ∙ ap length z.1);
      memory_enough = λ room q. memory_enough sheet run log memory output room (sym v ∙ q);
      output_enough = λ room q. output_enough sheet run log memory output room (sym v ∙ q);
    }

pub evening_demand : EveningDemand
evening_demand =
    record {
      each = of_evenings;
      only = λ sheet run e es memory output short r memory' output'. (evening_calls sheet run e es memory output short r memory' output').1;
      two = two_evenings;
      history = evening_history;
      demand_3 = λ file sheet made h es output r memory' output' p. demand_3 file sheet made (evening_history h es output r memory' output' p);
    }
