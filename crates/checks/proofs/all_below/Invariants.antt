-- What `checks::all_below` keeps at each turn: all of the entries passed are below n.
-- Assumes nothing.
use Rattle.std.proofs.Common.{◌≡◌, take, ltb}
use Rattle.std.specs.List.{list_all}
use Rattle.checks.proofs.all_below.Given as goal

abbrev pub invariant-loop-entry : goal.invariant-loop-entry
invariant-loop-entry l = l.all ≡ list_all (λ x. ltb x l.n) (take l.entry-index l.table)
