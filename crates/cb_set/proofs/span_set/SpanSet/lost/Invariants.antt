use Rattle.std.proofs.Common.{◌≡◌, take}
use Rattle.cb_set.specs.Lost.{lost}
use Rattle.cb_set.proofs.span_set.SpanSet.lost.Given as goal

abbrev pub invariant-loop-shard : goal.invariant-loop-shard
invariant-loop-shard l = l.losses.items ≡ lost l.m (take l.shard-index l.shard-items)
