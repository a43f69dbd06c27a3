use Rattle.cb_world_tests.proofs.Calling.{caller_keeps}
use Rattle.cb_shared.proofs.Laws.{left_keeps}
use Rattle.cb_world_tests.proofs.called.leave.Goals as goal

pub returns : goal.returns
returns c = record {
  caller = caller_keeps c.args.shared.now c.args.objects.now c.args.pass.now c.split.new.pass
      c.requires.caller c.split.ensures.of
      (left_keeps 1 c.args.pass.now.seat.me.0 c.split.new.pass.seat.me.0 c.split.ensures.left);
}
