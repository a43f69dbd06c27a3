use Rattle.std.specs.Prelude.{Ok}
use Rattle.cb_types.specs.declared.job.Job.TheVariants as jobs
use Rattle.cb_shared_bench.proofs.Orders.{turned_caller}
use Rattle.cb_shared_bench.proofs.rounds.install.Goals as goal

pub returns : goal.returns
returns g c = record {
  caller = turned_caller c.args.shared.now c.args.h jobs.Install (Ok c.install.result)
      c.args.pass.now c.install.new.pass c.requires.caller c.install.ensures.of
      c.install.ensures.turn;
}
