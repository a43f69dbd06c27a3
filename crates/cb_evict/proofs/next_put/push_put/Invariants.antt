use Rattle.std.proofs.Common.{◌≡◌, ◌++◌, take}
use Rattle.cb_world.specs.Reserved.{put_shards}
use Rattle.cb_evict.proofs.next_put.push_put.Given as goal

abbrev pub invariant-loop-put : goal.invariant-loop-put
invariant-loop-put l = l.into.items ≡ l.initial.into.items ++ put_shards (take l.put-index l.shards)
