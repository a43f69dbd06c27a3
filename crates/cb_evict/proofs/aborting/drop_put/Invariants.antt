use Rattle.std.proofs.Common.{◌≡◌, drop}
use Rattle.cb_world.specs.Reserved.{put_shards}
use Rattle.cb_world.specs.Stored.{AreThere, all_dropped}
use Rattle.cb_evict.proofs.aborting.drop_put.Given as goal

-- what is left to drop drops all
abbrev pub invariant-loop-shard : goal.invariant-loop-shard
invariant-loop-shard l =
    (all_dropped l.nodes (put_shards (drop l.shard-index l.shards))
    ≡ all_dropped l.initial.nodes (put_shards l.shards))
    × AreThere l.nodes (put_shards l.shards)
