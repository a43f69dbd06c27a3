use Rattle.std.proofs.Common.{arith}
use Rattle.std.proofs.lemmas.Grind.{common_steps}
use Rattle.cb_set.proofs.Losing.{lost_more}
use Rattle.cb_set.proofs.span_set.SpanSet.lost.Goals as goal

pub loop-shard-preserved : goal.loop-shard-preserved
loop-shard-preserved c =
    let e = lost_more c.args.m.now c.shards-shard-items.result.now c.loop-shard.shard-index
    (record { node = record { n = 0 }; incarnation = 0; key = 0 }) (omega arith) in
    grind (arith, common_steps)
