use Rattle.cb_types.specs.declared.job.Job.TheVariants.{Gather}
use Rattle.cb_core.specs.Ordered.{gather_answer}
use Rattle.cb_shared.specs.Passes.{record_of}
use Rattle.cb_shared.proofs.Laws.{turned_keeps}
use Rattle.cb_world_tests.proofs.Calling.{caller_keeps}
use Rattle.cb_world_tests.proofs.Orders.{gather_found}
use Rattle.cb_world_tests.proofs.coding.gathered.Goals as goal

pub returns-clause-caller : goal.returns-clause-caller
returns-clause-caller g c = caller_keeps c.args.shared.now c.args.objects.now c.args.pass.now
    c.gather-answer.new.pass c.requires.caller c.gather-answer.ensures.of
    (turned_keeps c.args.shared.now.config Gather (gather_answer c.gather-answer.result) _ _
    c.gather-answer.ensures.turn)

pub returns-clause-kept : goal.returns-clause-kept
returns-clause-kept g c = gather_found c.gather-answer.result c.encode_in.result
    (record_of c.gather-answer.new.pass).order c.gather-answer.ensures.handed
    c.gather-answer.ensures.runs c.encode_in.ensures
