use Rattle.std.proofs.Common.{◌∙◌, arith}
use Rattle.cb_world.proofs.Laws.{put_drops_more, node_there}
use Rattle.cb_compact.proofs.parting.drop_steps.Goals as goal

pub drop_step-requires : goal.drop_step-requires
drop_step-requires c = record {
  there = λ s e. node_there c.loop-step.nodes c.args.steps.now c.loop-step.step-index _ s
      c.loop-step-test.true c.loop-step.invariant.1 e;
}

pub loop-step-preserved : goal.loop-step-preserved
loop-step-preserved c = (
  put_drops_more c.loop-step.nodes c.drop_step.new.nodes c.args.steps.now c.loop-step.step-index _
      c.loop-step-test.true c.drop_step.ensures.put c.drop_step.ensures.none
      ∙ c.loop-step.invariant.0,
  λ p shard at.
      let n = c.drop_step.ensures.count in let l = c.loop-step.invariant.1 p shard at in
      omega (arith, n, l),
)
