use Rattle.cb_shared.specs.Joining.{unpinned_all}
use Rattle.cb_world_tests.proofs.Calling.{caller_keeps}
use Rattle.cb_shared.proofs.Laws.{join_keeps}
use Rattle.cb_world_tests.proofs.crew.take_last.Goals as goal

pub returns-in_err-extend_from_slice-in-Some-Ok-clause-caller :
    goal.returns-in_err-extend_from_slice-in-Some-Ok-clause-caller
returns-in_err-extend_from_slice-in-Some-Ok-clause-caller c = let p = c.args.first.now in
    caller_keeps c.args.shared.now c.args.objects.now p c.join_pass.new.pass c.requires.caller
    c.join_pass.ensures.of
    (join_keeps p.seat.me.0 (unpinned_all c.in-Some-Ok.field-0-0.pass.seat.me.0)
    c.join_pass.new.pass.seat.me.0 c.join_pass.ensures.joined)

pub returns-in_ok-extend_from_slice-in-Some-Ok-clause-caller :
    goal.returns-in_ok-extend_from_slice-in-Some-Ok-clause-caller
returns-in_ok-extend_from_slice-in-Some-Ok-clause-caller c = let p = c.args.first.now in
    caller_keeps c.args.shared.now c.args.objects.now p c.join_pass.new.pass c.requires.caller
    c.join_pass.ensures.of
    (join_keeps p.seat.me.0 (unpinned_all c.in-Some-Ok.field-0-0.pass.seat.me.0)
    c.join_pass.new.pass.seat.me.0 c.join_pass.ensures.joined)
