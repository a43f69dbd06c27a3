use Rattle.std.proofs.Common.{◌∙◌, arith}
use Rattle.cb_world.proofs.Laws.{put_drops_more, node_there}
use Rattle.cb_evict.proofs.aborting.drop_put.Goals as goal

pub drop_one-requires : goal.drop_one-requires
drop_one-requires c = record {
  there = λ s e. node_there c.loop-shard.nodes c.args.shards.now c.loop-shard.shard-index _ s
      c.loop-shard-test.true c.loop-shard.invariant.1 e;
}

pub loop-shard-preserved : goal.loop-shard-preserved
loop-shard-preserved c =
    let shards = c.args.shards.now in let i = c.loop-shard.shard-index in (
      put_drops_more c.loop-shard.nodes c.drop_one.new.nodes shards i _ c.loop-shard-test.true
          c.drop_one.ensures.put c.drop_one.ensures.none
          ∙ c.loop-shard.invariant.0,
      λ p shard at. let n = c.drop_one.ensures.count in
          omega (arith, n, c.loop-shard.invariant.1 p shard at),
    )
