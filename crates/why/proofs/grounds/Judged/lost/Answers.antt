-- `lost` meets its contract: the first pair that passes the test, or their count. Assumes nothing.
use borrow.Author.Rules.{rules}
use borrow.Author.Tests.{tests}
use mathlib.Core.Bool.{true, false}
use mathlib.Core.Path.{◌≡◌}
use Prim.Native.Nat.{◌<◌}
use lib.ListN.{length}
use Rattle.std.proofs.lemmas.Iterator.{IsFirst-from_position, YieldsList-from_slice}
use Rattle.std.specs.List.{AllWithin, HoldsAt}
use Rattle.std.specs.Option.{MatchOption}
use Rattle.rule.specs.Stopping.{stops_by}
use Rattle.rule.specs.declared.Pair.{Pair}
use Rattle.why.proofs.PickLaws.{lost_found, lost_none}
use Rattle.why.proofs.grounds.Judged.lost.Goals.{After-position}
use Rattle.why.proofs.grounds.Judged.lost.Goals as goal

-- the pairs before the place found fail the test, and the one there passes it
first : (c : After-position) →
    let passes : Pair → Type 0 = λ p. stops_by p c.args.reached c.args.self.t.0 ≡ true in
    let fails : Pair → Type 0 = λ p. stops_by p c.args.reached c.args.self.t.0 ≡ false in
    let pairs = c.args.self.body.pairs.now in
    MatchOption c.position.result (AllWithin fails pairs 0 (length pairs)) (λ i. (i < length pairs) × HoldsAt passes pairs i × AllWithin fails pairs 0 i)
first c =
    IsFirst-from_position _ _ _ (λ p. stops_by p c.args.reached c.args.self.t.0 ≡ true) (λ p. stops_by p c.args.reached c.args.self.t.0 ≡ false)
    c.position.ensures.ran (YieldsList-from_slice c.args.self.body.pairs.now cc) (λ x q k. search (rules, tests)) (λ x q k. search (rules, tests))

pub returns-in-Some : goal.returns-in-Some
returns-in-Some c =
    let f = rw c.in-Some.is at (first (goal.at.returns-in-Some c).After-position) in
    search (rules, lost_found, f)

pub returns-in-None : goal.returns-in-None
returns-in-None c =
    let f = rw c.in-None.is at (first (goal.at.returns-in-None c).After-position) in
    search (rules, lost_none, f)
