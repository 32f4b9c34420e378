-- `events` meets its contract: it may not begin, or the events are taken one after another. Assumes nothing.
use Rattle.monitor.proofs.EveningLaws.{evening_none, evening_each}
use Rattle.monitor.proofs.events.Goals as goal

pub returns-in-Ok : goal.returns-in-Ok
returns-in-Ok c = evening_each _ _ _ _ _ c.in-Ok.ensures.sheet c.in-Ok.ensures.verdict c.each.ensures

pub returns-in-Err : goal.returns-in-Err
returns-in-Err c = evening_none _ _ _ _ _ c.in-Err.ensures.verdict c.new.ensures
