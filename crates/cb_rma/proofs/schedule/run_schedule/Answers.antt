use Rattle.std.proofs.Common.{◌<◌, ◌^◌, [], length, refl, rules}
use Rattle.cb_rma.specs.Course.{standing_of}
use Rattle.cb_rma.specs.Schedule.{next}
use Rattle.cb_rma.proofs.Runs.{on_way_begun, on_way_moved, ends, ready}
use Rattle.cb_rma.proofs.schedule.run_schedule.Goals as goal

pub loop-event-init : goal.loop-event-init
loop-event-init c = (
  [],
  on_way_begun c.args.window c.args.events.now c.new-said.result _ c.new-said.ensures.empty
      (λ i. record {
        sender = c.new.ensures i;
        keeper = c.new-2.ensures i;
        orders = [];
        asks = c.new-3.ensures.items i;
        acks = c.new-4.ensures.items i;
      }),
)

pub loop-event-preserved : goal.loop-event-preserved
loop-event-preserved c =
    let orders = c.loop-event.invariant.0 in (
      (next (standing_of c.loop-event.course orders) c.event-item.result).orders,
      on_way_moved c.args.window c.args.events.now c.loop-event.event-index c.loop-event.said
          c.push.new.self c.loop-event.course c.step.new.self orders c.event-item.result
          c.in_ok-step.field-0 c.loop-event.invariant.1 c.loop-event-test.true c.event-item.is
          c.in_ok-step.ensures c.in_ok-push.ensures.ok,
    )

pub step-requires : goal.step-requires
step-requires c =
    let long : length c.args.events.now < 2 ^ 64 = search rules in
    ready c.args.window c.args.events.now c.loop-event.event-index c.loop-event.said
    c.loop-event.course c.loop-event.invariant.0 c.loop-event.invariant.1 c.loop-event-test.true
    long c.requires.small

pub returns : goal.returns
returns c =
    ends c.args.window c.args.events.now c.loop-event.event-index c.loop-event.said
    (standing_of c.loop-event.course c.loop-event.invariant.0) _ c.loop-event.invariant.1
    c.loop-event-test.false refl refl refl
