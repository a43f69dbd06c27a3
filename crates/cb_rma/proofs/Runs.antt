-- The loop over the events of a schedule.
use Rattle.std.proofs.Common.{◌≡◌, ℕ, ◌+◌, ◌<◌, ◌≤◌, ◌^◌, Bool, cond, List, [], ◌∷◌, ◌++◌, length, take, drop, get_or, Option, Some, None, refl, ap, sym, ◌∙◌, subst, arith, append_assoc}
use Rattle.std.specs.Prelude.{count_by}
use Rattle.std.proofs.lemmas.List.{at_drop_more, at_drop_all, length_push, append-nil}
use Rattle.std.proofs.lemmas.List.Sums.{sum_by-cons}
use Rattle.std.specs.List.{slice_get}
use Rattle.cb_rma.specs.declared.course.Course.{Course}
use Rattle.cb_rma.specs.declared.schedule.Ended.{Ended}
use Rattle.cb_rma.specs.declared.order.Order.{Order}
use Rattle.cb_rma.specs.declared.order.Ask.{Ask}
use Rattle.cb_rma.specs.declared.order.Ack.{Ack}
use Rattle.cb_rma.specs.declared.step.Step.{Step}
use Rattle.cb_rma.specs.declared.step.Step.TheVariants as step
use Rattle.cb_rma.specs.declared.step.Said.{Said}
use Rattle.cb_rma.specs.declared.sender.Submitted.{Submitted}
use Rattle.cb_rma.specs.declared.sender.Submitted.TheVariants.{Taken, Window}
use Rattle.cb_rma.specs.declared.keeper.Handled.{Handled}
use Rattle.cb_rma.specs.declared.keeper.Handled.TheVariants.{Applied, Repeated, Ahead, Other}
use Rattle.cb_rma.specs.Rows.{rows_after}
use Rattle.cb_rma.specs.Sending.{SenderState, answer_to_order}
use Rattle.cb_rma.specs.Keeping.{KeeperState, after_handled, handles}
use Rattle.cb_rma.specs.Schedule.{Standing, start, reply, next, replies, behind, is_submit, taken, behind_ask, behind_ack}
use Rattle.cb_rma.specs.Course.{standing_of, CourseMoves, HasRoomForEvent}
use Rattle.cb_rma.specs.Ends.{Ends}
use Rattle.cb_rma.proofs.Kept.{IsWindowKept, kept_start, kept_next}

-- The events before this place were run: this was said to them, and so things stand.
pub record IsOnWay (window : ℕ) (events : List Step) (place : ℕ) (said : List Said) (s : Standing)
    : Type 0 where
  pub replies_are : said ++ replies s (drop place events) ≡ replies (start window) events
  pub behind_is : behind s (drop place events) ≡ behind (start window) events
  pub kept : IsWindowKept window s
  pub few : length s.orders + count_by is_submit (drop place events) ≤ count_by is_submit events
  pub late : s.keeper.incarnation ≤ place

pub on_way_start : (window : ℕ) (events : List Step) → IsOnWay window events 0 [] (start window)
on_way_start window events = record {
  replies_are = refl;
  behind_is = refl;
  kept = kept_start window;
  few = omega arith;
  late = omega arith;
}

abbrev one_if : Bool → ℕ
one_if b = cond b 1 0

taken_few : (orders : List Order) (order : Order) (answer : Submitted)
    → length (orders ++ taken order answer) ≤ length orders + 1
taken_few orders order (Taken number) = omega (arith, length_push orders order)
taken_few orders order (Window waiting) = omega (arith, ap length (append-nil orders))

orders_behind_ask : (s : Standing) (ask : Option Ask) → length (behind_ask s ask).orders ≤ length s.orders + 0
orders_behind_ask s None = omega arith
orders_behind_ask s (Some ask) = omega arith

orders_behind_ack : (s : Standing) (ack : Option Ack) → length (behind_ack s ack).orders ≤ length s.orders + 0
orders_behind_ack s None = omega arith
orders_behind_ack s (Some ack) = omega arith

-- an order that is taken is one that was submitted
orders_more : (s : Standing) (event : Step)
    → length (next s event).orders ≤ length s.orders + one_if (is_submit event)
orders_more s (step.Submit order) = taken_few s.orders order (answer_to_order s.sender)
orders_more s (step.Send number) = omega arith
orders_more s (step.Ask packet) = orders_behind_ask s (slice_get s.asks packet)
orders_more s (step.Ack packet) = orders_behind_ack s (slice_get s.acks packet)
orders_more s step.Restart = omega arith
orders_more s (step.Show key) = omega arith

few_more : (s : Standing) (event : Step) (events : List Step)
    → length (next s event).orders + count_by is_submit events
    ≤ length s.orders + count_by is_submit (event ∷ events)
few_more s event events =
    omega (arith, orders_more s event, sum_by-cons (λ e. cond (is_submit e) 1 0) event events)

handled_in : (k : KeeperState) (order : Order) (answer : Handled)
    → (after_handled k order answer).incarnation ≤ k.incarnation + 1
handled_in k order (Applied ack) = omega arith
handled_in k order (Repeated ack) = omega arith
handled_in k order (Ahead ack) = omega arith
handled_in k order (Other incarnation) = omega arith

late_behind_ask : (s : Standing) (ask : Option Ask)
    → (behind_ask s ask).keeper.incarnation ≤ s.keeper.incarnation + 1
late_behind_ask s None = omega arith
late_behind_ask s (Some ask) = handled_in s.keeper ask.order (handles s.keeper ask)

late_behind_ack : (s : Standing) (ack : Option Ack)
    → (behind_ack s ack).keeper.incarnation ≤ s.keeper.incarnation + 1
late_behind_ack s None = omega arith
late_behind_ack s (Some ack) = omega arith

-- an event begins one incarnation at the most
late_more : (s : Standing) (event : Step)
    → (next s event).keeper.incarnation ≤ s.keeper.incarnation + 1
late_more s (step.Submit order) = omega arith
late_more s (step.Send number) = omega arith
late_more s (step.Ask packet) = late_behind_ask s (slice_get s.asks packet)
late_more s (step.Ack packet) = late_behind_ack s (slice_get s.acks packet)
late_more s step.Restart = omega arith
late_more s (step.Show key) = omega arith

pub on_way_next : (window : ℕ) (events : List Step) (place : ℕ) (said : List Said) (s : Standing)
    (event : Step) → IsOnWay window events place said s → place < length events
    → event ≡ get_or events place event
    → IsOnWay window events (place + 1) (said ++ reply s event ∷ []) (next s event)
on_way_next window events place said s event way within is =
    let rest : drop place events ≡ event ∷ drop (place + 1) events =
    at_drop_more (λ xs. xs) events place event within
    ∙ ap (λ e. e ∷ drop (place + 1) events) (sym is) in
    record {
      replies_are = append_assoc said (reply s event ∷ []) (replies (next s event) (drop (place + 1) events))
          ∙ ap (λ xs. said ++ replies s xs) (sym rest) ∙ way.replies_are;
      behind_is = ap (λ xs. behind s xs) (sym rest) ∙ way.behind_is;
      kept = kept_next window s event way.kept;
      few = omega (arith, few_more s event (drop (place + 1) events), way.few, ap (count_by is_submit) rest);
      late = omega (arith, late_more s event, way.late);
    }

-- behind the last event
pub ends : (window : ℕ) (events : List Step) (place : ℕ) (said : List Said) (s : Standing)
    (ended : Ended) → IsOnWay window events place said s → length events ≤ place
    → ended.said ≡ said → ended.sender ≡ s.sender → ended.keeper ≡ s.keeper
    → Ends window events ended
ends window events place said s ended way past said_is sender_is keeper_is =
    let none : drop place events ≡ [] = at_drop_all (λ xs. xs) events place past in
    let reached : s ≡ behind (start window) events =
    ap (λ xs. behind s xs) (sym none) ∙ way.behind_is in
    let count : ended.keeper.count ≡ s.keeper.count = ap (λ (k : KeeperState). k.count) keeper_is in
    let acknowledged : ended.sender.acknowledged ≡ s.sender.acknowledged =
    ap (λ (t : SenderState). t.acknowledged) sender_is in
    record {
      said = said_is ∙ sym (append-nil said) ∙ ap (λ xs. said ++ replies s xs) (sym none)
          ∙ way.replies_are;
      sender = sender_is ∙ ap (λ (t : Standing). t.sender) reached;
      keeper = keeper_is ∙ ap (λ (t : Standing). t.keeper) reached;
      taken = omega (arith, way.kept.taken, count, ap (λ (t : Standing). length t.orders) reached);
      rows = ap (λ (k : KeeperState). k.rows) keeper_is ∙ way.kept.rows
          ∙ ap (λ n. rows_after (take n s.orders)) (sym count)
          ∙ ap (λ (t : Standing). rows_after (take ended.keeper.count t.orders)) reached;
      heard = omega (arith, way.kept.heard, count, acknowledged);
    }

-- what the next event asks of the course
pub ready : (window : ℕ) (events : List Step) (place : ℕ) (said : List Said) (course : Course)
    (orders : List Order) → IsOnWay window events place said (standing_of course orders)
    → place < length events → length events < 2 ^ 64 → count_by is_submit events < 2 ^ 40
    → HasRoomForEvent course
ready window events place said course orders way within long few = record {
  submitted = omega (arith, way.kept.all, way.few);
  count = omega (arith, way.kept.taken, way.few);
  incarnation = omega (arith, way.late);
}

pub on_way_begun : (window : ℕ) (events : List Step) (said : List Said) (s : Standing) → said ≡ []
    → s ≡ start window → IsOnWay window events 0 said s
on_way_begun window events said s said_is is =
    subst (λ all. IsOnWay window events 0 all s) (sym said_is)
    (subst (λ t. IsOnWay window events 0 [] t) (sym is) (on_way_start window events))

-- the course moves as the schedule does
pub on_way_moved : (window : ℕ) (events : List Step) (place : ℕ) (said all : List Said)
    (course behind : Course) (orders : List Order) (event : Step) (one : Said)
    → IsOnWay window events place said (standing_of course orders) → place < length events
    → event ≡ get_or events place event → CourseMoves course event one behind
    → all ≡ said ++ one ∷ []
    → IsOnWay window events (place + 1) all
    (standing_of behind (next (standing_of course orders) event).orders)
on_way_moved window events place said all course behind orders event one way within is moves more =
    let said_is : all ≡ said ++ reply (standing_of course orders) event ∷ [] =
    more ∙ ap (λ (last : Said). said ++ last ∷ []) (moves.said_is orders) in
    subst (λ t. IsOnWay window events (place + 1) all t) (sym (moves.stands orders))
    (subst (λ xs. IsOnWay window events (place + 1) xs (next (standing_of course orders) event))
    (sym said_is)
    (on_way_next window events place said (standing_of course orders) event way within is))
