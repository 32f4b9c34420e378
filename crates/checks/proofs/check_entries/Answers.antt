-- `checks::check_entries` meets its contract: a look at the whole table says enough.
-- Assumes nothing.
use Rattle.std.proofs.Common.{rules}
use Rattle.checks.proofs.CheckLaws.{entries_low}
use Rattle.checks.proofs.check_entries.Goals as goal

pub returns-then-all_below : goal.returns-then-all_below
returns-then-all_below c = search (rules, entries_low)
