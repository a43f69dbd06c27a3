use Rattle.std.proofs.Common.{List}
use Rattle.cb_rma.specs.declared.order.Order.{Order}
use Rattle.cb_rma.specs.Course.{standing_of}
use Rattle.cb_rma.proofs.Runs.{IsOnWay}
use Rattle.cb_rma.proofs.schedule.run_schedule.Given as goal

abbrev pub invariant-loop-event : goal.invariant-loop-event
invariant-loop-event l = (orders : List Order)
    × IsOnWay l.window l.events l.event-index l.said (standing_of l.course orders)
