-- Worked rows, windows and schedules: what the definitions say of them, and what breaks one part.
use Rattle.std.proofs.Common.{◌≡◌, ℕ, ◌+◌, ◌^◌, ◌≤◌, List, [], ◌∷◌, Some, None, refl, ap, ◌∙◌, arith, lit≤}
use Rattle.std.specs.FinMap as map
use Rattle.std.specs.Ordering.{nat_cmp}
use Rattle.cb_gf256.specs.Product.{◌⊗◌}
use Rattle.cb_node.specs.Rows.{RowsByKey}
use Rattle.cb_rma.specs.declared.order.Order.TheVariants.{Put, Add, Drop}
use Rattle.cb_rma.specs.declared.sender.Submitted.TheVariants as submitted
use Rattle.cb_rma.specs.declared.sender.Heard.TheVariants as heard
use Rattle.cb_rma.specs.declared.keeper.Handled.TheVariants as handled
use Rattle.cb_rma.specs.declared.step.Step.{Step}
use Rattle.cb_rma.specs.declared.step.Step.TheVariants as step
use Rattle.cb_rma.specs.declared.step.Said.{Said}
use Rattle.cb_rma.specs.declared.step.Said.TheVariants as said
use Rattle.cb_rma.specs.Rows.{with_order, with_sum, rows_after}
use Rattle.cb_rma.specs.Sending.{SenderState, IsSender, sender_of, ask_of, hears}
use Rattle.cb_rma.specs.Keeping.{KeeperState, ack_of, keeper_of}
use Rattle.cb_rma.specs.Ends.{Ends}
use Rattle.cb_rma.specs.declared.schedule.Ended.{Ended}
use Rattle.cb_rma.specs.Schedule.{Standing, start, reply, replies, behind, reply_to_show}

-- what orders do to rows
abbrev ten : RowsByKey
ten = rows_after (Put 1 (10 ∷ []) ∷ [])

put_is_there : map.get ten 1 ≡ Some (10 ∷ [])
put_is_there = grind (arith, map.gets)

put_replaces : map.get (with_order ten (Put 1 (7 ∷ 8 ∷ []))) 1 ≡ Some (7 ∷ 8 ∷ [])
put_replaces = grind (arith, map.gets)

put_at_another_key : map.get (with_order ten (Put 2 (7 ∷ []))) 1 ≡ Some (10 ∷ [])
put_at_another_key = grind (arith, map.gets)

sum_is : with_order ten (Add 1 2 (1 ∷ [])) ≡ map.insert ten 1 (8 ∷ [])
unfolding ◌⊗◌
sum_is = ap (with_sum ten 1 2 (1 ∷ [])) put_is_there

add_where_alike : map.get (with_order ten (Add 1 2 (1 ∷ []))) 1 ≡ Some (8 ∷ [])
add_where_alike =
    let there : map.get (map.insert ten 1 (8 ∷ [])) 1 ≡ Some (8 ∷ []) = grind (arith, map.gets) in
    ap (λ rows. map.get rows 1) sum_is ∙ there

add_of_another_length : with_order ten (Add 1 2 (1 ∷ 1 ∷ [])) ≡ map.insert ten 1 (10 ∷ [])
add_of_another_length = ap (with_sum ten 1 2 (1 ∷ 1 ∷ [])) put_is_there

add_where_no_row_is : with_order ten (Add 2 2 (1 ∷ [])) ≡ ten
add_where_no_row_is =
    let none : map.get ten 2 ≡ None = grind (arith, map.gets) in
    ap (with_sum ten 2 2 (1 ∷ [])) none

drop_takes_the_key : map.get (with_order ten (Drop 1)) 1 ≡ None
drop_takes_the_key = grind (arith, map.gets)

drop_of_another_key : map.get (with_order ten (Drop 2)) 1 ≡ Some (10 ∷ [])
drop_of_another_key = grind (arith, map.gets)

-- a window of two, with orders 3 and 4 waiting
abbrev sender : SenderState
sender = sender_of 5 2 3 (Drop 1 ∷ Drop 2 ∷ [])

valid : IsSender sender
valid = record { some = lit≤ tt; few = lit≤ tt; room = lit≤ tt; small = lit≤ tt }

no_window : ¬ (IsSender (sender_of 5 0 3 []))
no_window h = absurd (omega (arith, h.some))

window_of_65 : ¬ (IsSender (sender_of 5 65 3 []))
window_of_65 h = absurd (omega (arith, h.few))

more_than_the_window : ¬ (IsSender (sender_of 5 1 3 (Drop 1 ∷ Drop 2 ∷ [])))
more_than_the_window h = absurd (let e : 2 ≤ 1 = h.room in omega (arith, e))

numbers_too_great : ¬ (IsSender (sender_of 5 2 (2 ^ 40) (Drop 1 ∷ [])))
numbers_too_great h = absurd (let e : 2 ^ 40 + 1 ≤ 2 ^ 40 = h.small in omega (arith, e))

asks_for_waiting : ask_of sender 4 ≡ Some (record { incarnation = 5; number = 4; order = Drop 2 })
asks_for_waiting = refl

no_ask_for_acknowledged : ask_of sender 2 ≡ None
no_ask_for_acknowledged = refl

no_ask_for_later : ask_of sender 5 ≡ None
no_ask_for_later = refl

fresh : hears sender (ack_of 5 5) ≡ heard.Fresh 5
fresh = refl

old : hears sender (ack_of 5 3) ≡ heard.Old 3
old = refl

beyond : hears sender (ack_of 5 6) ≡ heard.Beyond 6
beyond = refl

of_another_incarnation : hears sender (ack_of 4 5) ≡ heard.Other 4
of_another_incarnation = refl

-- two orders go out in the wrong order, the second one twice, and a window of two is full between
abbrev events : List Step
events =
    step.Submit (Put 1 (10 ∷ [])) ∷ step.Submit (Add 1 2 (1 ∷ [])) ∷ step.Submit (Put 2 (0 ∷ []))
    ∷ step.Send 1 ∷ step.Send 0 ∷ step.Ask 0 ∷ step.Ask 1 ∷ step.Ask 1 ∷ step.Ask 0 ∷ step.Ack 0
    ∷ step.Ack 3 ∷ []

abbrev there : Standing
there = behind (start 2) events

said_to_events : replies (start 2) events
    ≡ said.Submitted (submitted.Taken 0) ∷ said.Submitted (submitted.Taken 1)
    ∷ said.Submitted (submitted.Window 2) ∷ said.Sent 0 ∷ said.Sent 1
    ∷ said.Handled (handled.Ahead (ack_of 0 0)) ∷ said.Handled (handled.Applied (ack_of 0 1))
    ∷ said.Handled (handled.Repeated (ack_of 0 1)) ∷ said.Handled (handled.Applied (ack_of 0 2))
    ∷ said.Heard (heard.Old 0) ∷ said.Heard (heard.Fresh 2) ∷ []
said_to_events = refl

row_is_shown : reply there (step.Show 1) ≡ said.Row (8 ∷ [])
row_is_shown = ap reply_to_show add_where_alike

-- and behind a restart
said_behind_a_restart : replies there (step.Restart ∷ step.Ask 1 ∷ step.Ack 3 ∷ step.Ask 9 ∷ [])
    ≡ said.Incarnation 1 ∷ said.Handled (handled.Other 0) ∷ said.Heard (heard.Other 0)
    ∷ said.NoPacket ∷ []
said_behind_a_restart = refl

no_row_is_shown : reply (behind there (step.Restart ∷ step.Ask 1 ∷ [])) (step.Show 1) ≡ said.NoRow
no_row_is_shown = ap reply_to_show (map.get-empty nat_cmp 1)

-- where a schedule of one order ends, and what breaks one part
abbrev one_order : List Step
one_order = step.Submit (Put 1 (10 ∷ [])) ∷ step.Send 0 ∷ step.Ask 0 ∷ step.Ack 0 ∷ []

abbrev said_to_one : List Said
said_to_one =
    said.Submitted (submitted.Taken 0) ∷ said.Sent 0
    ∷ said.Handled (handled.Applied (ack_of 0 1)) ∷ said.Heard (heard.Fresh 1) ∷ []

abbrev ended : Ended
ended = record { sender = sender_of 0 1 1 []; keeper = keeper_of 0 1 ten; said = said_to_one }

ends_so : Ends 1 one_order ended
ends_so = record {
  said = refl;
  sender = refl;
  keeper = refl;
  taken = lit≤ tt;
  rows = refl;
  heard = lit≤ tt;
}

with_a_reply_left_out : ¬ (Ends 1 one_order (record ended { said = [] }))
with_a_reply_left_out h = cc (h.said)

with_another_sender : ¬ (Ends 1 one_order (record ended { sender = sender_of 0 1 0 [] }))
with_another_sender h =
    let e : 0 ≡ 1 = ap (λ (s : SenderState). s.acknowledged) h.sender in absurd (omega (arith, e))

with_another_incarnation : ¬ (Ends 1 one_order (record ended { keeper = keeper_of 1 1 ten }))
with_another_incarnation h =
    let e : 1 ≡ 0 = ap (λ (k : KeeperState). k.incarnation) h.keeper in absurd (omega (arith, e))

with_a_count_past_the_orders : ¬ (Ends 1 one_order (record ended { keeper = keeper_of 0 2 ten }))
with_a_count_past_the_orders h =
    let e : 2 ≤ 1 = h.taken in absurd (omega (arith, e))

with_rows_of_no_order : ¬ (Ends 1 one_order (record ended { keeper = keeper_of 0 1 map.empty }))
with_rows_of_no_order h =
    let none : map.get (map.empty {X = List ℕ} {R = nat_cmp}) 1 ≡ None = map.get-empty nat_cmp 1 in
    let e : map.get (map.empty {X = List ℕ} {R = nat_cmp}) 1 ≡ Some (10 ∷ []) =
    ap (λ (rows : RowsByKey). map.get rows 1) h.rows ∙ put_is_there in
    cc (none, e)

with_more_acknowledged_than_applied : ¬ (Ends 1 one_order (record ended { sender = sender_of 0 1 2 [] }))
with_more_acknowledged_than_applied h =
    let e : 2 ≤ 1 = h.heard in absurd (omega (arith, e))
