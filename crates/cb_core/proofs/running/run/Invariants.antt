use Rattle.cb_core.proofs.Runs.{Going}
use Rattle.cb_core.proofs.running.run.Given as goal

-- the events so far took place
abbrev pub invariant-loop-event : goal.invariant-loop-event
invariant-loop-event l = Going l.fn.world l.events l.event-index l.replies l.world
