use Rattle.cb_compact.specs.NowGoing.{HasGone}
use Rattle.cb_compact.proofs.compacting.take_steps.Given as goal

abbrev pub invariant-loop-position : goal.invariant-loop-position
invariant-loop-position l = HasGone l.fn.far l.far l.position
