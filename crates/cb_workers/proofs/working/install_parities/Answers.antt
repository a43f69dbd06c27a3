use Rattle.std.proofs.Common.{Ok}
use Rattle.cb_types.specs.declared.job.Job.TheVariants as jobs
use Rattle.cb_workers.proofs.Quiet.{adds_turn}
use Rattle.cb_workers.proofs.working.install_parities.Goals as goal

pub returns-in-Ok-clause-adds : goal.returns-in-Ok-clause-adds
returns-in-Ok-clause-adds g c = adds_turn c.args.shared.now.config jobs.Install (Ok c.install.result)
    _ _ tt c.install.ensures.turn
