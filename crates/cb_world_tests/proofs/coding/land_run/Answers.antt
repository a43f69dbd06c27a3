use Rattle.cb_types.specs.declared.job.Job.TheVariants.{Land}
use Rattle.cb_types.specs.declared.order.Kept.TheVariants.{Decode}
use Rattle.cb_shared.specs.Passes.{record_of}
use Rattle.cb_shared.proofs.Laws.{turned_keeps}
use Rattle.cb_world_tests.proofs.Calling.{caller_keeps}
use Rattle.cb_world_tests.proofs.Orders.{landing_left}
use Rattle.cb_world_tests.proofs.coding.land_run.Goals as goal

pub returns-clause-caller : goal.returns-clause-caller
returns-clause-caller g c = caller_keeps c.args.shared.now c.args.objects.now c.args.pass.now
    c.land.new.pass c.requires.caller c.land.ensures.of
    (turned_keeps c.args.shared.now.config Land c.land.result _ _ c.land.ensures.turn)

pub returns-clause-still : goal.returns-clause-still
returns-clause-still g c = landing_left c.land.result (record_of c.args.pass.now).order
    (record_of c.land.new.pass).order (Decode c.args.done.order) c.requires.kept
    c.land.ensures.keeps
