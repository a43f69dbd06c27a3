-- A sender and its answers.
use Rattle.std.specs.Prelude.{ℕ, ◌+◌, ◌-◌, ◌==◌, ◌≤◌, ◌^◌, ltb, if◌then◌else◌, List, [], ◌∷◌, ◌++◌, length, drop, Option, Some, None}
use Rattle.std.specs.List.{slice_get}
use Rattle.cb_rma.specs.declared.order.Order.{Order}
use Rattle.cb_rma.specs.declared.order.Ask.{Ask}
use Rattle.cb_rma.specs.declared.order.Ack.{Ack}
use Rattle.cb_rma.specs.declared.sender.Submitted.{Submitted}
use Rattle.cb_rma.specs.declared.sender.Submitted.TheVariants.{Taken, Window}
use Rattle.cb_rma.specs.declared.sender.Heard.{Heard}
use Rattle.cb_rma.specs.declared.sender.Heard.TheVariants.{Fresh, Old, Beyond, Other}

-- its incarnation, how many orders may wait for an acknowledgement, how many are acknowledged, and
-- the orders after these, which wait
pub record SenderState : Type 0 where
  pub incarnation : ℕ
  pub window : ℕ
  pub acknowledged : ℕ
  pub waiting : List Order

-- the sender of these parts
abbrev pub sender_of : ℕ → ℕ → ℕ → List Order → SenderState
sender_of incarnation window acknowledged waiting = record {
  incarnation = incarnation;
  window = window;
  acknowledged = acknowledged;
  waiting = waiting;
}

-- how many orders were submitted in its incarnation
abbrev pub submitted : SenderState → ℕ
submitted s = s.acknowledged + length s.waiting

-- no more orders wait than the window has room for, and their numbers stay small
pub record IsSender (s : SenderState) : Type 0 where
  pub some : 1 ≤ s.window
  pub few : s.window ≤ 64
  pub room : length s.waiting ≤ s.window
  pub small : submitted s ≤ 2 ^ 40

-- one that took no order yet
abbrev pub new_sender : ℕ → ℕ → SenderState
new_sender incarnation window = sender_of incarnation window 0 []

-- A full window is answered with its size. Else the order is taken, under the next number.
abbrev pub answer_to_order : SenderState → Submitted
answer_to_order s =
    if length s.waiting == s.window then Window s.window else Taken (submitted s)

-- the sender after such an answer
abbrev pub after_order : SenderState → Order → Submitted → SenderState
after_order s order (Taken number) = record s { waiting = s.waiting ++ order ∷ [] }
after_order s order (Window waiting) = s

-- the message with this order
abbrev pub message : ℕ → ℕ → Order → Ask
message incarnation number order =
    record { incarnation = incarnation; number = number; order = order }

-- the same, where there is one
abbrev pub asking : SenderState → ℕ → Option Order → Option Ask
asking s number None = None
asking s number (Some order) = Some (message s.incarnation number order)

-- the message with the order of this number, where it waits for an acknowledgement
abbrev pub ask_of : SenderState → ℕ → Option Ask
ask_of s number =
    if ltb number s.acknowledged then None
    else asking s number (slice_get s.waiting (number - s.acknowledged))

-- Other to another incarnation, Beyond to more orders than were submitted, Old to no more than are
-- acknowledged, and else Fresh
abbrev pub hears : SenderState → Ack → Heard
hears s ack =
    if ack.incarnation == s.incarnation then
    (if ltb (submitted s) ack.count then Beyond ack.count
    else (if ltb s.acknowledged ack.count then Fresh ack.count else Old ack.count))
    else Other ack.incarnation

-- the sender after such an answer
abbrev pub after_heard : SenderState → Heard → SenderState
after_heard s (Fresh count) = record s {
  acknowledged = count;
  waiting = drop (count - s.acknowledged) s.waiting;
}
after_heard s (Old count) = s
after_heard s (Beyond count) = s
after_heard s (Other incarnation) = s
