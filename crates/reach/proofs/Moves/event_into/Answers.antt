-- `reach::Moves::event_into` meets its contract: the first cell of the row whose bit is set. Assumes nothing.
use borrow.Author.Rules.{rules}
use borrow.Author.Tests.{tests}
use mathlib.Core.Path.{◌≡◌}
use Prim.Native.Nat.{ℕ, ◌<◌, ◌/◌, ◌%◌, ◌^◌}
use lib.ListN.{length}
use Rattle.std.proofs.lemmas.Iterator.{IsFirst-from_position, YieldsList-from_slice}
use Rattle.std.specs.List.{AllWithin, HoldsAt}
use Rattle.std.specs.Option.{MatchOption}
use Rattle.reach.proofs.StepLaws.{into_empty, into_never, into_found}
use Rattle.reach.proofs.Moves.event_into.Goals as goal
use Rattle.reach.proofs.Moves.event_into.Goals.{After-position}

-- the row's cells before the place found have no bit in the set, and the one there has
first : (c : After-position) →
    let in_set : ℕ → Type 0 = λ t. c.args.set / 2 ^ (t % 64) % 2 ≡ 1 in
    let row = c.in-Some.row.now in
    MatchOption c.position.result
    (AllWithin (λ t. in_set t → ⊥) row 0 (length row))
    (λ e. (e < length row) × HoldsAt in_set row e × AllWithin (λ t. in_set t → ⊥) row 0 e)
first c =
    IsFirst-from_position _ _ _
    (λ t. c.args.set / 2 ^ (t % 64) % 2 ≡ 1)
    (λ t. c.args.set / 2 ^ (t % 64) % 2 ≡ 1 → ⊥)
    c.position.ensures.ran
    (YieldsList-from_slice c.in-Some.row.now cc)
    (λ x q k. search (rules, tests))
    (λ x q k. search (rules, tests))

pub returns-then-set-eq0 : goal.returns-then-set-eq0
returns-then-set-eq0 c = search (rules, into_empty)

pub returns-in-None : goal.returns-in-None
returns-in-None c =
    let f = rw c.in-None.is at (first (goal.at.returns-in-None c).After-position) in
    search (rules, into_never, f)

pub returns-in-Some-position : goal.returns-in-Some-position
returns-in-Some-position c =
    let f = rw c.in-Some-position.is at (first (goal.at.returns-in-Some-position c).After-position) in
    search (rules, into_found, f)
