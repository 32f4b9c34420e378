-- `nearer` meets its contract: one state at a time, in the set and in the array of steps.
-- Assumes nothing.
use borrow.Author.Rules.{rules}
use mathlib.Core.Path.{refl, ap}
use mathlib.Core.Bool.{not}
use lib.ListN.{length-set}
use Rattle.why.proofs.LoopLaws.{rows_long, nearer_none, nearer_member, nearer_new, nearer_not, nearer_all}
use Rattle.why.proofs.LoopLaws.{steps_none, steps_member, steps_new, steps_not, steps_all}
use Rattle.why.proofs.ways.nearer.Goals as goal
use Rattle.why.proofs.ways.nearer.Goals.{then-not-contains+then-set-row-ne0, else-not-contains}
use Rattle.why.proofs.ways.nearer.Goals.{else-not-contains-via-then-not-contains+else-set-row-ne0, else-not-contains-via-else-not-contains}

pub loop-s-init : goal.loop-s-init
loop-s-init c = (search rules, refl, nearer_none _ 0 _ _, steps_none _ 0 _ _ _)

pub bounds-rows-s : goal.bounds-rows-s
bounds-rows-s c = search (rules, rows_long)

pub loop-s-preserved : goal.loop-s-preserved
loop-s-preserved c =
    let m = c.args.moves in
    let a = c.args in
    let l = c.loop-s in
    elim c.if-not-contains.branch [
      | then-not-contains+then-set-row-ne0 w ↦ (
        search rules,
        rw w.steps-is (search (rules, length-set)),
        rw w.out-is (nearer_new m.table.now m.states m.events a.set a.rows.now l.s _ c.requires.2 (search rules) c.requires.1
            (search rules) refl l.out _ l.invariant.2 w.if-set-row-ne0.true w.insert-out.ensures),
        rw w.steps-is (steps_new m.table.now m.states m.events a.set a.rows.now l.s _ c.requires.2 (search rules) c.requires.1
            (search rules) refl a.steps.now l.steps _ _ l.invariant.3 c.contains.ensures
            (ap not w.if-not-contains.true) w.event_into.ensures w.if-set-row-ne0.true),
      )
      | else-not-contains w ↦
          elim w.else-not-contains.branch [
            | else-not-contains-via-then-not-contains+else-set-row-ne0 v ↦ (
              search rules,
              rw w.steps-is (search rules),
              rw w.out-is (search (rules, nearer_not)),
              rw w.steps-is (search (rules, steps_not)),
            )
            | else-not-contains-via-else-not-contains v ↦ (
              search rules,
              rw w.steps-is (search rules),
              rw w.out-is (search (rules, nearer_member)),
              rw w.steps-is (search (rules, steps_member)),
            )
          ]
    ]

pub returns : goal.returns
returns c = (search (rules, nearer_all), search (rules, steps_all))
