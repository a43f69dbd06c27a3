use Rattle.cb_types.specs.declared.job.Job.TheVariants as jobs
use Rattle.cb_shared_bench.proofs.Orders.{turned_caller}
use Rattle.cb_shared_bench.proofs.rounds.land.Goals as goal

pub returns-in-Ok-Swapped : goal.returns-in-Ok-Swapped
returns-in-Ok-Swapped g c = record {
  caller = turned_caller c.args.shared.now c.args.h jobs.Land c.land.result c.args.pass.now
      c.land.new.pass c.requires.caller c.land.ensures.of c.land.ensures.turn;
}

pub returns : goal.returns
returns g c = record {
  caller = turned_caller c.args.shared.now c.args.h jobs.Land c.land.result c.args.pass.now
      c.land.new.pass c.requires.caller c.land.ensures.of c.land.ensures.turn;
}
