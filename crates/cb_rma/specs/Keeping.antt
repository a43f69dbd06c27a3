-- A keeper and its answers.
use Rattle.std.specs.Prelude.{ℕ, ◌+◌, ◌==◌, ltb, if◌then◌else◌, List, [], ◌∷◌, refl}
use Rattle.std.specs.Coded.{Coded, code_by, coded×, coded_ℕ}
use Rattle.std.specs.FinMap as map
use Rattle.cb_node.specs.Rows.{RowsByKey, rows_code}
use Rattle.cb_rma.specs.declared.order.Order.{Order}
use Rattle.cb_rma.specs.declared.order.Ask.{Ask}
use Rattle.cb_rma.specs.declared.order.Ack.{Ack}
use Rattle.cb_rma.specs.declared.keeper.Handled.{Handled}
use Rattle.cb_rma.specs.declared.keeper.Handled.TheVariants.{Applied, Repeated, Ahead, Other}
use Rattle.cb_rma.specs.Rows.{with_order}

-- its incarnation, how many orders it applied, and its rows
pub record KeeperState : Type 0 where
  pub incarnation : ℕ
  pub count : ℕ
  pub rows : RowsByKey

-- the keeper of these parts
abbrev pub keeper_of : ℕ → ℕ → RowsByKey → KeeperState
keeper_of incarnation count rows =
    record { incarnation = incarnation; count = count; rows = rows }

-- the keeper is stored as these three
abbrev pub keeper_code : Coded KeeperState
keeper_code =
    code_by (ℕ × (ℕ × RowsByKey)) (coded× coded_ℕ (coded× coded_ℕ rows_code))
    (λ k. (k.incarnation, (k.count, k.rows))) (λ p. keeper_of p.0 p.1.0 p.1.1) (λ _. refl)

-- one with no row
abbrev pub new_keeper : ℕ → KeeperState
new_keeper incarnation = keeper_of incarnation 0 map.empty

-- an acknowledgement of so many orders
abbrev pub ack_of : ℕ → ℕ → Ack
ack_of incarnation count = record { incarnation = incarnation; count = count }

-- Other to another incarnation, Repeated to a number below the count, Ahead to one above it, and
-- Applied to the count itself. Each acknowledgement has the count afterwards.
abbrev pub handles : KeeperState → Ask → Handled
handles k ask =
    if ask.incarnation == k.incarnation then
    (if ltb ask.number k.count then Repeated (ack_of k.incarnation k.count)
    else (if ltb k.count ask.number then Ahead (ack_of k.incarnation k.count)
    else Applied (ack_of k.incarnation (k.count + 1))))
    else Other ask.incarnation

-- the keeper after such an answer
abbrev pub after_handled : KeeperState → Order → Handled → KeeperState
after_handled k order (Applied ack) =
    keeper_of k.incarnation (k.count + 1) (with_order k.rows order)
after_handled k order (Repeated ack) = k
after_handled k order (Ahead ack) = k
after_handled k order (Other incarnation) = k

-- the acknowledgement that is sent with such an answer
abbrev pub acks_of : Handled → List Ack
acks_of (Applied ack) = ack ∷ []
acks_of (Repeated ack) = ack ∷ []
acks_of (Ahead ack) = ack ∷ []
acks_of (Other incarnation) = []
