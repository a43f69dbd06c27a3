use Rattle.std.proofs.Common.{◌≡◌, ◌≤◌, length, take}
use Rattle.cb_set.specs.Lost.{lost}
use Rattle.cb_set.proofs.span_set.SpanSet.lost_count.Given as goal

abbrev pub invariant-loop-shard : goal.invariant-loop-shard
invariant-loop-shard l = record {
  counted : l.count ≡ length (lost l.m (take l.shard-index l.shard-items));
  bound : l.count ≤ l.shard-index;
}
