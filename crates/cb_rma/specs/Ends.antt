-- Where a schedule ends.
use Rattle.std.specs.Prelude.{◌≡◌, ℕ, ◌≤◌, List, length, take}
use Rattle.cb_rma.specs.declared.order.Order.{Order}
use Rattle.cb_rma.specs.declared.step.Step.{Step}
use Rattle.cb_rma.specs.declared.schedule.Ended.{Ended}
use Rattle.cb_rma.specs.Rows.{rows_after}
use Rattle.cb_rma.specs.Schedule.{start, replies, behind}

-- the orders that were taken in the incarnation in which the schedule ends
abbrev pub orders_of : ℕ → List Step → List Order
orders_of window events = (behind (start window) events).orders

-- Each event has its reply, and both sides stand as the schedule says. The keeper's rows are those
-- after the first `count` orders of its incarnation, each once and in order, and no more of them
-- are acknowledged.
pub record Ends (window : ℕ) (events : List Step) (ended : Ended) : Type 0 where
  pub said : ended.said ≡ replies (start window) events
  pub sender : ended.sender ≡ (behind (start window) events).sender
  pub keeper : ended.keeper ≡ (behind (start window) events).keeper
  pub taken : ended.keeper.count ≤ length (orders_of window events)
  pub rows : ended.keeper.rows ≡ rows_after (take ended.keeper.count (orders_of window events))
  pub heard : ended.sender.acknowledged ≤ ended.keeper.count
