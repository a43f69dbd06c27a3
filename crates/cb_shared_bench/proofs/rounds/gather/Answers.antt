use Rattle.cb_types.specs.declared.job.Job.TheVariants as jobs
use Rattle.cb_core.specs.Ordered.{gather_answer}
use Rattle.cb_shared_bench.proofs.Orders.{turned_caller}
use Rattle.cb_shared_bench.proofs.rounds.gather.Goals as goal

pub returns : goal.returns
returns g c = record {
  caller = turned_caller c.args.shared.now c.args.h jobs.Gather (gather_answer c.gather.result)
      c.args.pass.now c.gather.new.pass c.requires.caller c.gather.ensures.of
      c.gather.ensures.turn;
}

pub returns-in-Ok-Order : goal.returns-in-Ok-Order
returns-in-Ok-Order g c = record {
  caller = turned_caller c.args.shared.now c.args.h jobs.Gather (gather_answer c.gather.result)
      c.args.pass.now c.gather.new.pass c.requires.caller c.gather.ensures.of
      c.gather.ensures.turn;
}
