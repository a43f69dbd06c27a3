use Rattle.std.proofs.lemmas.List.Elements.{All-push, All-same}
use Rattle.cb_world_tests.specs.Callers.{IsCaller}
use Rattle.cb_world_tests.specs.declared.rounds.Part.{Part}
use Rattle.cb_world_tests.proofs.Calling.{caller_keeps}
use Rattle.cb_shared.proofs.Laws.{left_keeps, right_keeps}
use Rattle.cb_world_tests.proofs.crew.deal.Goals as goal

pub returns-in_err-push-clause-caller : goal.returns-in_err-push-clause-caller
returns-in_err-push-clause-caller c = caller_keeps c.args.shared.now c.args.objects.now
    c.loop-thread.first c.split-pass.new.pass c.loop-thread.invariant.0 c.split-pass.ensures.of
    (left_keeps 8 c.loop-thread.first.seat.me.0 c.split-pass.new.pass.seat.me.0
    c.split-pass.ensures.left)

pub loop-thread-preserved : goal.loop-thread-preserved
loop-thread-preserved c =
    let P = λ (x : Part). IsCaller c.args.shared.now c.args.objects.now x.pass in (
      caller_keeps c.args.shared.now c.args.objects.now c.loop-thread.first c.split-pass.new.pass
          c.loop-thread.invariant.0 c.split-pass.ensures.of
          (left_keeps 8 c.loop-thread.first.seat.me.0 c.split-pass.new.pass.seat.me.0
          c.split-pass.ensures.left),
      All-same P _ _ c.in_ok-push.ensures.items
          (All-push P c.loop-thread.parts.items _ c.loop-thread.invariant.1
          (caller_keeps c.args.shared.now c.args.objects.now c.loop-thread.first
          c.split-pass.result c.loop-thread.invariant.0 c.split-pass.ensures.new
          (right_keeps 8 c.loop-thread.first.seat.me.0 c.split-pass.result.seat.me.0
          c.split-pass.ensures.right))),
    )
