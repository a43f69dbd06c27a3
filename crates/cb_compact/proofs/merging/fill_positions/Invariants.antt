use Rattle.cb_compact.specs.Merging.{IsFilledBelow}
use Rattle.cb_compact.proofs.merging.fill_positions.Given as goal

abbrev pub invariant-loop-position : goal.invariant-loop-position
invariant-loop-position l =
    IsFilledBelow l.fn.set.id l.fn.set.pages l.fn.set.shards l.a l.b l.position l.set
