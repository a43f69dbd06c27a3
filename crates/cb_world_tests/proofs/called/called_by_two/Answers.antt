use Rattle.cb_shared.specs.Joining.{unpinned_all}
use Rattle.cb_world_tests.proofs.Calling.{caller_keeps}
use Rattle.cb_shared.proofs.Laws.{join_keeps, left_keeps, right_keeps}
use Rattle.cb_world_tests.proofs.called.called_by_two.Goals as goal

pub second_called-told-requires-clause-caller : goal.second_called-told-requires-clause-caller
second_called-told-requires-clause-caller g c = caller_keeps c.args.shared.now c.args.objects.now
    c.args.first.now c.split-second.new.pass c.requires.caller c.split-second.ensures.of
    (left_keeps 1 c.args.first.now.seat.me.0 c.split-second.new.pass.seat.me.0
    c.split-second.ensures.left)

pub second_called-told-requires-clause-second : goal.second_called-told-requires-clause-second
second_called-told-requires-clause-second g c = caller_keeps c.args.shared.now c.args.objects.now
    c.args.first.now c.split-second.result c.requires.caller c.split-second.ensures.new
    (right_keeps 1 c.args.first.now.seat.me.0 c.split-second.result.seat.me.0
    c.split-second.ensures.right)

pub returns-then-share-whole-2 : goal.returns-then-share-whole-2
returns-then-share-whole-2 g c = record {
  caller = caller_keeps c.args.shared.now c.args.objects.now c.second_called-told.new.first c.join_pass.new.pass
      c.second_called-told.ensures.caller c.join_pass.ensures.of
      (join_keeps c.second_called-told.new.first.seat.me.0 (unpinned_all c.second_called-told.new.second.seat.me.0)
      c.join_pass.new.pass.seat.me.0 c.join_pass.ensures.joined);
}

pub returns-else-is_apart : goal.returns-else-is_apart
returns-else-is_apart g c = record {
  caller = caller_keeps c.args.shared.now c.args.objects.now c.second_called-told.new.first c.join_pass.new.pass
      c.second_called-told.ensures.caller c.join_pass.ensures.of
      (join_keeps c.second_called-told.new.first.seat.me.0 (unpinned_all c.second_called-told.new.second.seat.me.0)
      c.join_pass.new.pass.seat.me.0 c.join_pass.ensures.joined);
}
