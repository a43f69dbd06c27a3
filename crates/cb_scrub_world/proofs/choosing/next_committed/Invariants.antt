use Rattle.std.proofs.Common.{◌-◌}
use Rattle.cb_scrub_world.proofs.Walked.{Passed}
use Rattle.cb_scrub_world.proofs.choosing.next_committed.Given as goal

abbrev pub invariant-loop-id : goal.invariant-loop-id
invariant-loop-id l = Passed l.fn.after l.far.sets l.from

abbrev pub decreases-loop-id : goal.decreases-loop-id
decreases-loop-id l = 18446744073709551616 - l.from
