-- The orders that seats keep stay kept.
use Rattle.std.proofs.Common.{◌≡◌, ℕ, ◌*◌, ◌<◌, List, [], length, map, Option, None, Some, sym, ap, ◌∙◌, subst, append-nil, get_or-set_other, get_or-set_same}
use native.Mathlib.Decide.{ℕ_discrete}
use Rattle.cb_types.specs.declared.order.Kept.{Kept}
use Rattle.cb_world.specs.declared.object.Object.TheVariants as is
use Rattle.cb_world.specs.declared.shown.Shown.{Shown}
use Rattle.cb_world.specs.FarSound.{rows_in}
use Rattle.cb_world.specs.FarState.{FarState}
use Rattle.cb_world.specs.Leaving.{LeavingState}
use Rattle.cb_world.specs.Memory.{window}
use Rattle.cb_world.specs.Orders.{AreOrdersKept, KeepsOrder, LeavesOrders}
use Rattle.cb_world.specs.Plain.{Words}
use Rattle.cb_world.specs.RowWords.{row_of}
use Rattle.cb_world.specs.Seats.{SeatState, idle_seat, order_of, seat_at, with_order}
use Rattle.cb_world.specs.Shown.{object_at}
use Rattle.cb_world.specs.Sound.{Sound}
use Rattle.cb_world.specs.World.{IsKnown}
use Rattle.cb_world.proofs.Beside.{KeepsBeside, leaving_beside}
use Rattle.cb_world.proofs.OrdersLeft.{orders_stay}
use Rattle.cb_world.proofs.Unmoved.{KeepsLeaving, batch_kept}

-- ---- of one order, and of what all seats keep
pub order_then : (s t : Shown) (far new : FarState) (o : Option Kept) → LeavesOrders s far t new
    → KeepsOrder s far o → KeepsOrder t new o
order_then s t far new None leaves kept = tt
order_then s t far new (Some o) leaves kept = leaves o kept

pub orders_then : (s t : Shown) (far new : FarState) (seats : List SeatState)
    → LeavesOrders s far t new → AreOrdersKept s far seats → AreOrdersKept t new seats
orders_then s t far new seats leaves kept k =
    order_then s t far new (order_of seats k) leaves (kept k)

-- seats that keep the same orders
pub orders_kept : (s : Shown) (far : FarState) (seats next : List SeatState)
    → ((k : ℕ) → order_of next k ≡ order_of seats k) → AreOrdersKept s far seats
    → AreOrdersKept s far next
orders_kept s far seats next same kept k = subst (KeepsOrder s far) (sym (same k)) (kept k)

-- a seat that keeps another order, or none
pub order_put : (s : Shown) (far : FarState) (seats : List SeatState) (seat : ℕ) (o : Option Kept)
    → seat < length seats → KeepsOrder s far o → AreOrdersKept s far seats
    → AreOrdersKept s far (with_order seats seat o)
order_put s far seats seat o within mine kept k = by (ℕ_discrete k seat)
  where
    by : Dec (k ≡ seat) → KeepsOrder s far (order_of (with_order seats seat o) k)
    by (yes e) = subst (λ (x : SeatState). KeepsOrder s far x.order)
        (sym (ap (λ (i : ℕ). seat_at (with_order seats seat o) i) e
        ∙ get_or-set_same seats seat (record (seat_at seats seat) { order = o }) idle_seat within)) mine
    by (no off) = subst (λ (x : SeatState). KeepsOrder s far x.order)
        (sym (get_or-set_other seats seat k (record (seat_at seats seat) { order = o }) idle_seat off))
        (kept k)

-- ---- where the far state stays
-- and local memory
pub same_orders : (s t : Shown) (far : FarState) → t.memory ≡ s.memory → LeavesOrders s far t far
same_orders s t far same =
    orders_stay s t far (λ b at. ap (λ (memory : List ℕ). map
    (λ f. row_of (window memory (512 * f) (512 * b.pages))) b.frames) same)

-- so for who knows the words before and after, where those of memory stay
pub known_orders : (x y : Words) (far : FarState) (s t : Shown) → IsKnown x far s → IsKnown y far t
    → y.memory ≡ x.memory → LeavesOrders s far t far
known_orders x y far s t k l same =
    same_orders s t far (l.shows.memory ∙ same ∙ sym k.shows.memory)

rows_leaving : (s t : Shown) (far : FarState) (b : LeavingState) → KeepsLeaving s t far far b
    → rows_in t b.pages b.frames ≡ rows_in s b.pages b.frames
rows_leaving s t far b k = let bare : LeavingState = record b { parities = [] } in
    sym (append-nil (rows_in t b.pages b.frames))
    ∙ batch_kept s t far far bare (record { spans = k.spans; words = k.words })
    ∙ append-nil (rows_in s b.pages b.frames)

-- where the words of one object change that is here, and so of no batch that is leaving
pub beside_orders : (far : FarState) (s t : Shown) (h len place : ℕ) → Sound s far
    → object_at s h ≡ is.Here len place → KeepsBeside s.memory t.memory place len
    → LeavesOrders s far t far
beside_orders far s t h len place sound here beside = orders_stay s t far (λ b at.
    rows_leaving s t far b (leaving_beside far s t h len place b sound here beside at))
