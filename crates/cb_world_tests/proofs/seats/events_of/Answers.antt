use Rattle.cb_world_tests.proofs.AllEvents.{all_push}
use Rattle.cb_world_tests.proofs.seats.events_of.Goals as goal

pub loop-row-preserved : goal.loop-row-preserved
loop-row-preserved c = rw c.in_ok-push.ensures.items
    (all_push c.args.config c.loop-row.events.items c.in-Some.event c.loop-row.invariant
    (rw c.in-Some.is at (c.in_ok-found.ensures)))
