use Rattle.std.proofs.Common.{◌∙◌, Ok}
use Rattle.cb_types.specs.declared.job.Job.TheVariants.{Install}
use Rattle.cb_shared.specs.Passes.{record_of}
use Rattle.cb_shared.proofs.Laws.{turned_keeps}
use Rattle.cb_world_tests.proofs.Calling.{caller_keeps}
use Rattle.cb_world_tests.proofs.Orders.{install_left}
use Rattle.cb_world_tests.proofs.coding.install_run.Goals as goal

pub returns-clause-caller : goal.returns-clause-caller
returns-clause-caller g c = caller_keeps c.args.shared.now c.args.objects.now c.args.pass.now
    c.install.new.pass c.requires.caller c.install.ensures.of
    (turned_keeps c.args.shared.now.config Install (Ok c.install.result) _ _ c.install.ensures.turn)

pub returns-clause-still : goal.returns-clause-still
returns-clause-still g c = λ refused. c.install.ensures.keeps
    ∙ install_left c.install.result (record_of c.args.pass.now).order refused ∙ c.requires.kept
