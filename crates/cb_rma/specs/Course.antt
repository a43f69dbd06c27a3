-- A schedule on its way, and what an event does to it.
use Rattle.std.specs.Prelude.{◌≡◌, ◌-◌, ◌<◌, ◌^◌, List}
use Rattle.cb_rma.specs.declared.course.Course.{Course}
use Rattle.cb_rma.specs.declared.order.Order.{Order}
use Rattle.cb_rma.specs.declared.step.Step.{Step}
use Rattle.cb_rma.specs.declared.step.Said.{Said}
use Rattle.cb_rma.specs.Sending.{submitted}
use Rattle.cb_rma.specs.Schedule.{Standing, reply, next}

-- how things stand, where these orders were taken in this incarnation
abbrev pub standing_of : Course → List Order → Standing
standing_of course orders = record {
  sender = course.sender;
  keeper = course.keeper;
  orders = orders;
  asks = course.asks.items;
  acks = course.acks.items;
}

-- this is said to the event, and the course goes on after it, whatever orders were taken
pub record CourseMoves (course : Course) (event : Step) (said : Said) (behind : Course) : Type
    0 where
  pub said_is : (orders : List Order) → said ≡ reply (standing_of course orders) event
  pub stands : (orders : List Order)
      → standing_of behind (next (standing_of course orders) event).orders
      ≡ next (standing_of course orders) event

-- the numbers have room for one event more
pub record HasRoomForEvent (course : Course) : Type 0 where
  pub submitted : submitted course.sender < 2 ^ 40
  pub count : course.keeper.count < 2 ^ 40
  pub incarnation : course.keeper.incarnation < 2 ^ 64 - 1
