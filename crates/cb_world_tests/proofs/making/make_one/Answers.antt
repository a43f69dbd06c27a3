use Rattle.cb_types.specs.declared.job.Job.TheVariants as jobs
use Rattle.cb_world_tests.proofs.Calling.{caller_keeps}
use Rattle.cb_shared.proofs.Laws.{turn_keeps, turns_keep}
use Rattle.cb_world_tests.proofs.Makes.{call_makes, turn_makes}
use Rattle.cb_world_tests.proofs.making.make_one.Goals as goal

pub returns-in_ok-bytes-in-Turn : goal.returns-in_ok-bytes-in-Turn
returns-in_ok-bytes-in-Turn g c = record {
  caller = caller_keeps c.args.shared.now c.args.objects.now c.args.pass.now c.turn.new.pass
      c.requires.caller c.turn.ensures.of
      (turn_keeps c.args.shared.now.config (jobs.Make c.in_ok-bytes-in-Turn.bytes) c.turn.result _ _
      c.turn.ensures.turn);
  knows = turn_makes c.args.shared.now.config c.in_ok-bytes-in-Turn.bytes c.turn.result
      c.made.result _ _ c.turn.ensures.turn c.made.ensures.made;
}

pub returns-in-Call : goal.returns-in-Call
returns-in-Call g c = record {
  caller = caller_keeps c.args.shared.now c.args.objects.now c.args.pass.now c.make.new.pass
      c.requires.caller c.make.ensures.of
      (turns_keep c.args.shared.now.config (jobs.Make c.args.bytes.now) c.make.result _ _
      c.make.ensures.make c.make.ensures.error);
  knows = call_makes c.args.shared.now.config c.args.bytes.now c.make.result
      c.made-in-Call.result _ _ c.make.ensures.make c.made-in-Call.ensures.made;
}
