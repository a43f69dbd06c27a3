-- A schedule: orders submitted, messages sent, and messages that come, or come again, in any order.
use Rattle.std.specs.Prelude.{ℕ, ◌+◌, List, [], ◌∷◌, ◌++◌, length, Option, Some, None, Bool, true, false}
use Rattle.std.specs.List.{slice_get}
use Rattle.std.specs.FinMap as map
use Rattle.cb_rma.specs.declared.order.Order.{Order}
use Rattle.cb_rma.specs.declared.order.Ask.{Ask}
use Rattle.cb_rma.specs.declared.order.Ack.{Ack}
use Rattle.cb_rma.specs.declared.sender.Submitted.{Submitted}
use Rattle.cb_rma.specs.declared.sender.Submitted.TheVariants.{Taken, Window}
use Rattle.cb_rma.specs.declared.step.Step.{Step}
use Rattle.cb_rma.specs.declared.step.Step.TheVariants as step
use Rattle.cb_rma.specs.declared.step.Said.{Said}
use Rattle.cb_rma.specs.declared.step.Said.TheVariants as said
use Rattle.cb_rma.specs.Sending.{SenderState, new_sender, answer_to_order, after_order, ask_of, hears, after_heard}
use Rattle.cb_rma.specs.Keeping.{KeeperState, new_keeper, handles, after_handled, acks_of}

-- How things stand: the sender, the keeper, the orders that were taken in this incarnation, and all
-- asks and acknowledgements that were ever sent.
pub record Standing : Type 0 where
  pub sender : SenderState
  pub keeper : KeeperState
  pub orders : List Order
  pub asks : List Ask
  pub acks : List Ack

-- incarnation 0, with an empty sender and an empty keeper
abbrev pub start : ℕ → Standing
start window = record {
  sender = new_sender 0 window;
  keeper = new_keeper 0;
  orders = [];
  asks = [];
  acks = [];
}

-- the order, where it was taken
abbrev pub taken : Order → Submitted → List Order
taken order (Taken number) = order ∷ []
taken order (Window waiting) = []

-- the message, where there is one
abbrev pub sent : Option Ask → List Ask
sent None = []
sent (Some ask) = ask ∷ []

-- what is said where this message is sent, which would be the ask of this number
abbrev pub reply_to_send : ℕ → Option Ask → Said
reply_to_send packet None = said.Nothing
reply_to_send packet (Some ask) = said.Sent packet

-- what is said where this ask comes
abbrev pub reply_to_ask : KeeperState → Option Ask → Said
reply_to_ask k None = said.NoPacket
reply_to_ask k (Some ask) = said.Handled (handles k ask)

-- what is said where this acknowledgement comes
abbrev pub reply_to_ack : SenderState → Option Ack → Said
reply_to_ack s None = said.NoPacket
reply_to_ack s (Some ack) = said.Heard (hears s ack)

-- what is said where this row is looked at
abbrev pub reply_to_show : Option (List ℕ) → Said
reply_to_show None = said.NoRow
reply_to_show (Some row) = said.Row row

-- what is said to an event
abbrev pub reply : Standing → Step → Said
reply s (step.Submit order) = said.Submitted (answer_to_order s.sender)
reply s (step.Send number) = reply_to_send (length s.asks) (ask_of s.sender number)
reply s (step.Ask packet) = reply_to_ask s.keeper (slice_get s.asks packet)
reply s (step.Ack packet) = reply_to_ack s.sender (slice_get s.acks packet)
reply s step.Restart = said.Incarnation (s.keeper.incarnation + 1)
reply s (step.Show key) = reply_to_show (map.get s.keeper.rows key)

-- how things stand after an ask that comes
abbrev pub behind_ask : Standing → Option Ask → Standing
behind_ask s None = s
behind_ask s (Some ask) = record s {
  keeper = after_handled s.keeper ask.order (handles s.keeper ask);
  acks = s.acks ++ acks_of (handles s.keeper ask);
}

-- and after an acknowledgement
abbrev pub behind_ack : Standing → Option Ack → Standing
behind_ack s None = s
behind_ack s (Some ack) = record s { sender = after_heard s.sender (hears s.sender ack) }

-- how things stand after an event
abbrev pub next : Standing → Step → Standing
next s (step.Submit order) = record s {
  sender = after_order s.sender order (answer_to_order s.sender);
  orders = s.orders ++ taken order (answer_to_order s.sender);
}
next s (step.Send number) = record s { asks = s.asks ++ sent (ask_of s.sender number) }
next s (step.Ask packet) = behind_ask s (slice_get s.asks packet)
next s (step.Ack packet) = behind_ack s (slice_get s.acks packet)
next s step.Restart = record s {
  sender = new_sender (s.keeper.incarnation + 1) s.sender.window;
  keeper = new_keeper (s.keeper.incarnation + 1);
  orders = [];
}
next s (step.Show key) = s

-- what is said to the events of a schedule, one after another
abbrev pub replies : Standing → List Step → List Said
replies s [] = []
replies s (event ∷ events) = reply s event ∷ replies (next s event) events

-- how things stand after them
abbrev pub behind : Standing → List Step → Standing
behind s [] = s
behind s (event ∷ events) = behind (next s event) events

-- whether the event submits an order
abbrev pub is_submit : Step → Bool
is_submit (step.Submit order) = true
is_submit _ = false
