-- What every event of a schedule keeps: each order is applied once and in order.
use Rattle.std.proofs.Common.{◌≡◌, ℕ, ◌+◌, ◌-◌, ◌<◌, ◌≤◌, true, false, cond, List, [], ◌∷◌, ◌++◌, length, take, drop, Option, Some, None, refl, ap, sym, ◌∙◌, subst, arith}
use Rattle.std.specs.Prelude.{ltb, eqb}
use Rattle.std.specs.List.{AllByRecursion, slice_get}
use Rattle.std.specs.FinMap as map
use Rattle.std.proofs.lemmas.Bool.{ltb-true, ltb-false, eqb-true}
use Rattle.std.proofs.lemmas.List.{length_push, length-drop, drop-append-le, take-append-le, append-nil}
use Rattle.std.proofs.lemmas.Option.{slice_get_within}
use Rattle.cb_rma.specs.declared.order.Order.{Order}
use Rattle.cb_rma.specs.declared.order.Ask.{Ask}
use Rattle.cb_rma.specs.declared.order.Ack.{Ack}
use Rattle.cb_rma.specs.declared.sender.Submitted.{Submitted}
use Rattle.cb_rma.specs.declared.sender.Submitted.TheVariants.{Taken, Window}
use Rattle.cb_rma.specs.declared.sender.Heard.{Heard}
use Rattle.cb_rma.specs.declared.sender.Heard.TheVariants.{Fresh, Old, Beyond, Other as OtherAck}
use Rattle.cb_rma.specs.declared.keeper.Handled.{Handled}
use Rattle.cb_rma.specs.declared.keeper.Handled.TheVariants.{Applied, Repeated, Ahead, Other}
use Rattle.cb_rma.specs.declared.step.Step.{Step}
use Rattle.cb_rma.specs.declared.step.Step.TheVariants as step
use Rattle.cb_rma.specs.Rows.{with_order, rows_after}
use Rattle.cb_rma.specs.Sending.{SenderState, submitted, after_order, answer_to_order, asking, ask_of, hears, after_heard}
use Rattle.cb_rma.specs.Keeping.{KeeperState, ack_of, handles, after_handled, acks_of}
use Rattle.cb_rma.specs.Schedule.{Standing, start, taken, sent, next, behind_ask, behind_ack}
use Rattle.cb_rma.proofs.Lists.{all_append, all_weaker, all_at, get_front, get_behind, drop_twice, fold_push, take_next}

-- an ask of this incarnation has the order of its number
pub record IsAskOf (incarnation : ℕ) (orders : List Order) (ask : Ask) : Type 0 where
  pub late : ask.incarnation ≤ incarnation
  pub order : ask.incarnation ≡ incarnation → slice_get orders ask.number ≡ Some ask.order

-- an acknowledgement of this incarnation tells no more than were applied
pub record IsAckOf (incarnation applied : ℕ) (ack : Ack) : Type 0 where
  pub late : ack.incarnation ≤ incarnation
  pub count : ack.incarnation ≡ incarnation → ack.count ≤ applied

pub record IsWindowKept (size : ℕ) (s : Standing) : Type 0 where
  pub window_is : s.sender.window ≡ size
  pub same : s.sender.incarnation ≡ s.keeper.incarnation
  pub all : submitted s.sender ≡ length s.orders
  pub waiting : s.sender.waiting ≡ drop s.sender.acknowledged s.orders
  pub heard : s.sender.acknowledged ≤ s.keeper.count
  pub taken : s.keeper.count ≤ length s.orders
  pub rows : s.keeper.rows ≡ rows_after (take s.keeper.count s.orders)
  pub asks : AllByRecursion (IsAskOf s.keeper.incarnation s.orders) s.asks
  pub acks : AllByRecursion (IsAckOf s.keeper.incarnation s.keeper.count) s.acks

pub kept_start : (window : ℕ) → IsWindowKept window (start window)
kept_start window = record {
  window_is = refl;
  same = refl;
  all = refl;
  waiting = refl;
  heard = omega arith;
  taken = omega arith;
  rows = refl;
  asks = tt;
  acks = tt;
}

abbrev with_answer : Standing → Order → Submitted → Standing
with_answer s order answer = record s {
  sender = after_order s.sender order answer;
  orders = s.orders ++ taken order answer;
}

more_orders : (incarnation : ℕ) (orders others : List Order) (ask : Ask)
    → IsAskOf incarnation orders ask → IsAskOf incarnation (orders ++ others) ask
more_orders incarnation orders others ask is = record {
  late = is.late;
  order = λ here. get_front orders others ask.number ask.order (is.order here);
}

kept_answer : (window : ℕ) (s : Standing) (order : Order) (answer : Submitted)
    → IsWindowKept window s
    → IsWindowKept window (with_answer s order answer)
kept_answer window s order (Window waiting) kept =
    let P : List Order → Type 0 = λ orders. IsWindowKept window (record s { orders = orders }) in
    subst P (sym (append-nil s.orders)) kept
kept_answer window s order (Taken number) kept =
    let low : s.sender.acknowledged ≤ length s.orders = omega (arith, kept.heard, kept.taken) in
    record {
      window_is = kept.window_is;
      same = kept.same;
      all = omega (arith, kept.all, length_push s.sender.waiting order, length_push s.orders order);
      waiting = ap (λ orders. orders ++ order ∷ []) kept.waiting
          ∙ sym (drop-append-le s.sender.acknowledged s.orders (order ∷ []) low);
      heard = kept.heard;
      taken = omega (arith, kept.taken, length_push s.orders order);
      rows = kept.rows
          ∙ ap rows_after (sym (take-append-le s.keeper.count s.orders (order ∷ []) kept.taken));
      asks = all_weaker (IsAskOf s.keeper.incarnation s.orders) (IsAskOf s.keeper.incarnation (s.orders ++ order ∷ []))
          (more_orders s.keeper.incarnation s.orders (order ∷ [])) s.asks kept.asks;
      acks = kept.acks;
    }

-- a message that the sender makes is of its incarnation, and has the order of its number
sent_asks : (s : Standing) (number : ℕ) (order : Option Order)
    → ((here : Order) → order ≡ Some here → slice_get s.orders number ≡ Some here)
    → AllByRecursion (IsAskOf s.sender.incarnation s.orders) (sent (asking s.sender number order))
sent_asks s number None is = tt
sent_asks s number (Some order) is =
    (record { late = omega arith; order = λ here. is order refl }, tt)

kept_sent : (window : ℕ) (s : Standing) (number : ℕ) → IsWindowKept window s
    → AllByRecursion (IsAskOf s.sender.incarnation s.orders) (sent (ask_of s.sender number))
kept_sent window s number kept =
    elim (ltb number s.sender.acknowledged)
    as (λ b. ltb number s.sender.acknowledged ≡ b
    → AllByRecursion (IsAskOf s.sender.incarnation s.orders) (sent (cond b None
    (asking s.sender number (slice_get s.sender.waiting (number - s.sender.acknowledged)))))) [
      | true ↦ λ e. tt
      | false ↦ λ e. sent_asks s number (slice_get s.sender.waiting (number - s.sender.acknowledged))
          (λ here is. sym (get_behind s.orders s.sender.acknowledged number
          (ltb-false number s.sender.acknowledged e))
          ∙ ap (λ orders. slice_get orders (number - s.sender.acknowledged)) (sym kept.waiting) ∙ is)
    ] refl

kept_send : (window : ℕ) (s : Standing) (number : ℕ) → IsWindowKept window s
    → IsWindowKept window (record s { asks = s.asks ++ sent (ask_of s.sender number) })
kept_send window s number kept = record {
  window_is = kept.window_is;
  same = kept.same;
  all = kept.all;
  waiting = kept.waiting;
  heard = kept.heard;
  taken = kept.taken;
  rows = kept.rows;
  asks = all_append (IsAskOf s.keeper.incarnation s.orders) s.asks _ kept.asks
      (subst (λ n. AllByRecursion (IsAskOf n s.orders) (sent (ask_of s.sender number))) kept.same
      (kept_sent window s number kept));
  acks = kept.acks;
}

-- an acknowledgement of what is applied now
kept_told : (window : ℕ) (s : Standing) → IsWindowKept window s
    → IsWindowKept window
    (record s { acks = s.acks ++ ack_of s.keeper.incarnation s.keeper.count ∷ [] })
kept_told window s kept = record {
  window_is = kept.window_is;
  same = kept.same;
  all = kept.all;
  waiting = kept.waiting;
  heard = kept.heard;
  taken = kept.taken;
  rows = kept.rows;
  asks = kept.asks;
  acks = all_append (IsAckOf s.keeper.incarnation s.keeper.count) s.acks _ kept.acks
      (record { late = omega arith; count = λ here. omega arith }, tt);
}

more_applied : (incarnation count : ℕ) (ack : Ack) → IsAckOf incarnation count ack
    → IsAckOf incarnation (count + 1) ack
more_applied incarnation count ack is = record {
  late = is.late;
  count = λ here. let low = is.count here in omega (arith, low);
}

-- the next order, applied
abbrev with_applied : Standing → Order → Standing
with_applied s order = record s {
  keeper = record {
    incarnation = s.keeper.incarnation;
    count = s.keeper.count + 1;
    rows = with_order s.keeper.rows order;
  };
}

kept_applied : (window : ℕ) (s : Standing) (order : Order) → IsWindowKept window s
    → slice_get s.orders s.keeper.count ≡ Some order → IsWindowKept window (with_applied s order)
kept_applied window s order kept is =
    let within = slice_get_within s.orders s.keeper.count order is in
    record {
      window_is = kept.window_is;
      same = kept.same;
      all = kept.all;
      waiting = kept.waiting;
      heard = omega (arith, kept.heard);
      taken = omega (arith, within);
      rows = ap (λ rows. with_order rows order) kept.rows
          ∙ sym (fold_push with_order map.empty (take s.keeper.count s.orders) order)
          ∙ ap rows_after (sym (take_next s.orders s.keeper.count order is));
      asks = kept.asks;
      acks = all_weaker (IsAckOf s.keeper.incarnation s.keeper.count) (IsAckOf s.keeper.incarnation (s.keeper.count + 1))
          (more_applied s.keeper.incarnation s.keeper.count) s.acks kept.acks;
    }

-- which answer comes to an ask, by the numbers compared
abbrev Comes : KeeperState → Ask → Handled → Type 0
Comes k ask (Applied ack) = (ask.incarnation ≡ k.incarnation) × (ask.number ≡ k.count)
    × (ack ≡ ack_of k.incarnation (k.count + 1))
Comes k ask (Repeated ack) = ack ≡ ack_of k.incarnation k.count
Comes k ask (Ahead ack) = ack ≡ ack_of k.incarnation k.count
Comes k ask (Other incarnation) = Unit {0}

comes : (k : KeeperState) (ask : Ask) → Comes k ask (handles k ask)
comes k ask =
    elim (eqb ask.incarnation k.incarnation)
    as (λ b. eqb ask.incarnation k.incarnation ≡ b → Comes k ask (cond b
    (cond (ltb ask.number k.count) (Repeated (ack_of k.incarnation k.count))
    (cond (ltb k.count ask.number) (Ahead (ack_of k.incarnation k.count))
    (Applied (ack_of k.incarnation (k.count + 1)))))
    (Other ask.incarnation))) [
      | true ↦ λ here. elim (ltb ask.number k.count)
          as (λ b. ltb ask.number k.count ≡ b → Comes k ask (cond b
          (Repeated (ack_of k.incarnation k.count))
          (cond (ltb k.count ask.number) (Ahead (ack_of k.incarnation k.count))
          (Applied (ack_of k.incarnation (k.count + 1)))))) [
            | true ↦ λ below. refl
            | false ↦ λ high. elim (ltb k.count ask.number)
                as (λ b. ltb k.count ask.number ≡ b → Comes k ask (cond b
                (Ahead (ack_of k.incarnation k.count))
                (Applied (ack_of k.incarnation (k.count + 1))))) [
                  | true ↦ λ above. refl
                  | false ↦ λ low. (
                    eqb-true ask.incarnation k.incarnation here,
                    omega (arith, ltb-false ask.number k.count high, ltb-false k.count ask.number low),
                    refl,
                  )
                ] refl
          ] refl
      | false ↦ λ other. tt
    ] refl

kept_handled : (window : ℕ) (s : Standing) (ask : Ask) (answer : Handled) → IsWindowKept window s
    → IsAskOf s.keeper.incarnation s.orders ask → Comes s.keeper ask answer
    → IsWindowKept window (record s {
      keeper = after_handled s.keeper ask.order answer;
      acks = s.acks ++ acks_of answer;
    })
kept_handled window s ask (Applied ack) kept is came =
    let order : slice_get s.orders s.keeper.count ≡ Some ask.order =
    ap (λ n. slice_get s.orders n) (sym came.1) ∙ is.order came.0 in
    let P : Ack → Type 0 = λ told. IsWindowKept window (record (with_applied s ask.order) { acks = s.acks ++ told ∷ [] }) in
    subst P (sym came.2) (kept_told window (with_applied s ask.order) (kept_applied window s ask.order kept order))
kept_handled window s ask (Repeated ack) kept is came =
    let P : Ack → Type 0 = λ told. IsWindowKept window (record s { acks = s.acks ++ told ∷ [] }) in
    subst P (sym came) (kept_told window s kept)
kept_handled window s ask (Ahead ack) kept is came =
    let P : Ack → Type 0 = λ told. IsWindowKept window (record s { acks = s.acks ++ told ∷ [] }) in
    subst P (sym came) (kept_told window s kept)
kept_handled window s ask (Other incarnation) kept is came =
    let P : List Ack → Type 0 = λ acks. IsWindowKept window (record s { acks = acks }) in
    subst P (sym (append-nil s.acks)) kept

kept_ask : (window : ℕ) (s : Standing) (packet : ℕ) (ask : Option Ask) → IsWindowKept window s
    → slice_get s.asks packet ≡ ask → IsWindowKept window (behind_ask s ask)
kept_ask window s packet None kept is = kept
kept_ask window s packet (Some ask) kept is =
    kept_handled window s ask (handles s.keeper ask) kept
    (all_at (IsAskOf s.keeper.incarnation s.orders) s.asks packet ask kept.asks is)
    (comes s.keeper ask)

-- which answer comes to an acknowledgement, by the numbers compared
abbrev Tells : SenderState → Ack → Heard → Type 0
Tells s ack (Fresh count) = (ack.incarnation ≡ s.incarnation) × (count ≡ ack.count)
    × (s.acknowledged < count) × (count ≤ submitted s)
Tells s ack (Old count) = Unit {0}
Tells s ack (Beyond count) = Unit {0}
Tells s ack (OtherAck incarnation) = Unit {0}

tells : (s : SenderState) (ack : Ack) → Tells s ack (hears s ack)
tells s ack =
    elim (eqb ack.incarnation s.incarnation)
    as (λ b. eqb ack.incarnation s.incarnation ≡ b → Tells s ack (cond b
    (cond (ltb (submitted s) ack.count) (Beyond ack.count)
    (cond (ltb s.acknowledged ack.count) (Fresh ack.count) (Old ack.count)))
    (OtherAck ack.incarnation))) [
      | true ↦ λ here. elim (ltb (submitted s) ack.count)
          as (λ b. ltb (submitted s) ack.count ≡ b → Tells s ack (cond b (Beyond ack.count)
          (cond (ltb s.acknowledged ack.count) (Fresh ack.count) (Old ack.count)))) [
            | true ↦ λ above. tt
            | false ↦ λ within. elim (ltb s.acknowledged ack.count)
                as (λ b. ltb s.acknowledged ack.count ≡ b
                → Tells s ack (cond b (Fresh ack.count) (Old ack.count))) [
                  | true ↦ λ high. (
                    eqb-true ack.incarnation s.incarnation here,
                    refl,
                    ltb-true s.acknowledged ack.count high,
                    ltb-false (submitted s) ack.count within,
                  )
                  | false ↦ λ low. tt
                ] refl
          ] refl
      | false ↦ λ other. tt
    ] refl

kept_heard : (window : ℕ) (s : Standing) (ack : Ack) (answer : Heard) → IsWindowKept window s
    → IsAckOf s.keeper.incarnation s.keeper.count ack → Tells s.sender ack answer
    → IsWindowKept window (record s { sender = after_heard s.sender answer })
kept_heard window s ack (Fresh count) kept is told =
    let applied = is.count (told.0 ∙ kept.same) in
    let behind : drop (count - s.sender.acknowledged) s.sender.waiting ≡ drop count s.orders =
    ap (λ orders. drop (count - s.sender.acknowledged) orders) kept.waiting
    ∙ drop_twice s.orders s.sender.acknowledged count (omega (arith, told.2)) in
    record {
      window_is = kept.window_is;
      same = kept.same;
      all = omega (arith, ap length behind, length-drop count s.orders, kept.all, told.3);
      waiting = behind;
      heard = omega (arith, applied, told.1);
      taken = kept.taken;
      rows = kept.rows;
      asks = kept.asks;
      acks = kept.acks;
    }
kept_heard window s ack (Old count) kept is told = kept
kept_heard window s ack (Beyond count) kept is told = kept
kept_heard window s ack (OtherAck incarnation) kept is told = kept

kept_ack : (window : ℕ) (s : Standing) (packet : ℕ) (ack : Option Ack) → IsWindowKept window s
    → slice_get s.acks packet ≡ ack → IsWindowKept window (behind_ack s ack)
kept_ack window s packet None kept is = kept
kept_ack window s packet (Some ack) kept is =
    kept_heard window s ack (hears s.sender ack) kept
    (all_at (IsAckOf s.keeper.incarnation s.keeper.count) s.acks packet ack kept.acks is)
    (tells s.sender ack)

-- a message of an incarnation that is past
past_ask : (incarnation : ℕ) (orders : List Order) (ask : Ask) → IsAskOf incarnation orders ask
    → IsAskOf (incarnation + 1) [] ask
past_ask incarnation orders ask is = record {
  late = omega (arith, is.late);
  order = λ here. absurd (omega (arith, is.late, here));
}

past_ack : (incarnation count : ℕ) (ack : Ack) → IsAckOf incarnation count ack
    → IsAckOf (incarnation + 1) 0 ack
past_ack incarnation count ack is = record {
  late = omega (arith, is.late);
  count = λ here. absurd (omega (arith, is.late, here));
}

kept_restart : (window : ℕ) (s : Standing) → IsWindowKept window s
    → IsWindowKept window (next s step.Restart)
kept_restart window s kept = record {
  window_is = kept.window_is;
  same = refl;
  all = refl;
  waiting = refl;
  heard = omega arith;
  taken = omega arith;
  rows = refl;
  asks = all_weaker (IsAskOf s.keeper.incarnation s.orders) (IsAskOf (s.keeper.incarnation + 1) [])
      (past_ask s.keeper.incarnation s.orders) s.asks kept.asks;
  acks = all_weaker (IsAckOf s.keeper.incarnation s.keeper.count) (IsAckOf (s.keeper.incarnation + 1) 0)
      (past_ack s.keeper.incarnation s.keeper.count) s.acks kept.acks;
}

pub kept_next : (window : ℕ) (s : Standing) (event : Step) → IsWindowKept window s
    → IsWindowKept window (next s event)
kept_next window s (step.Submit order) kept = kept_answer window s order (answer_to_order s.sender) kept
kept_next window s (step.Send number) kept = kept_send window s number kept
kept_next window s (step.Ask packet) kept = kept_ask window s packet (slice_get s.asks packet) kept refl
kept_next window s (step.Ack packet) kept = kept_ack window s packet (slice_get s.acks packet) kept refl
kept_next window s step.Restart kept = kept_restart window s kept
kept_next window s (step.Show key) kept = kept
