use Rattle.cb_evict.specs.Storing.{AreShards}
use Rattle.cb_evict.proofs.storing.choose_shards.Given as goal

-- the earlier positions have their shards
abbrev pub invariant-loop-p : goal.invariant-loop-p
invariant-loop-p l = AreShards l.far l.p l.shards.items
