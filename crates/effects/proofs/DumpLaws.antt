-- What a dump that has room comes to.
-- Assumes nothing.
use Prim.Native.Nat.{ℕ, ◌+◌, ◌<◌}
use native.Mathlib.Omega.{arith}
use native.Mathlib.Numerals.{add-one}
use mathlib.Core.Path.{◌≡◌, refl, ◌∙◌}
use mathlib.Core.List.{List, ◌++◌}
use lib.ListN.{length, drop, set}
use lib.Seq.{take_all}
use borrow.Author.Tests.{lt-leb}
use Rattle.std.specs.Prelude.{Ok}
use Rattle.octets.specs.Copies.{copied}
use Rattle.octets.proofs.CopyLaws.{copied_whole}
use Rattle.octets.proofs.ListLaws.{store_more}
use Rattle.rule.specs.declared.StateNo.{StateNo}
use Rattle.rule.specs.declared.EventNo.{EventNo}
use Rattle.rule.specs.declared.Operation.TheVariants.{Dump}
use Rattle.effects.specs.Effects.{fresh_run, DumpPromise}
use Rattle.effects.specs.declared.Run.{Run}

pub dumped : (next : StateNo) (held : List ℕ) (e : EventNo) (output : List ℕ) {to : List ℕ} {run : Run} → length held < length output
    → to ≡ copied held output → run ≡ fresh_run next
    → DumpPromise next held e output (Ok (record { operation = Dump; run = run; released = length held + 1 })) (set to (length held) e.0)
dumped next held e output {to} b d new =
    let t = lt-leb _ _ b in
    let w : to ≡ held ++ drop (length held) output = d ∙ copied_whole held output (omega arith) in
    record {
      answer = rw (t, new);
      output_after = rw (t, w, add-one, take_all (length held) held (omega arith)) (store_more held output (length held) e.0 0 refl b);
    }
