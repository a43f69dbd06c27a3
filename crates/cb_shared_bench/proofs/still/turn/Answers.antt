use Rattle.cb_shared_bench.proofs.Again.{still_again}
use Rattle.cb_shared_bench.proofs.still.turn.Goals as goal

pub returns : goal.returns
returns c = record {
  still = λ yes. still_again c.args.world.now c.step-reply.new.world c.args.event.now
      c.step-reply.result c.requires.still c.step-reply.ensures.sound c.step-reply.ensures.step
      (c.is_right.ensures yes);
}
