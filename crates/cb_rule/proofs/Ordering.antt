-- Orders that seats keep, behind a change that leaves them.
use Rattle.std.proofs.Common.{Option, Some, None}
use Rattle.cb_types.specs.declared.order.Kept.{Kept}
use Rattle.cb_world.specs.declared.shown.Shown.{Shown}
use Rattle.cb_world.specs.FarState.{FarState}
use Rattle.cb_world.specs.Orders.{KeepsOrder, LeavesOrders}

pub order_left : (s t : Shown) (far new : FarState) → LeavesOrders s far t new → (o : Option Kept)
    → KeepsOrder s far o → KeepsOrder t new o
order_left s t far new leaves None k = tt
order_left s t far new leaves (Some o) k = leaves o k

pub orders_stay : (s : Shown) (far : FarState) → LeavesOrders s far s far
orders_stay s far o k = k

pub orders_then : (s t u : Shown) (far mid new : FarState) → LeavesOrders s far t mid
    → LeavesOrders t mid u new → LeavesOrders s far u new
orders_then s t u far mid new a b o k = b o (a o k)
