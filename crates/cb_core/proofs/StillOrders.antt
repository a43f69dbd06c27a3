-- What an operation over the still desk leaves of orders, for who knows all before and behind.
use Rattle.std.proofs.Common.{List, sym, ◌∙◌}
use Rattle.cb_world.specs.declared.access.Access.{Access}
use Rattle.cb_world.specs.declared.shown.Shown.{Shown}
use Rattle.cb_world.specs.FarState.{FarState}
use Rattle.cb_world.specs.Orders.{LeavesOrders, LeavesWords}
use Rattle.cb_world.specs.Plain.{Words, Plain, Shows, IsSized}
use Rattle.cb_world.specs.Played.{played}
use Rattle.cb_world.specs.StillDesk.{plain_follows}
use Rattle.cb_world.specs.World.{IsKnown}
use Rattle.cb_world.proofs.Laws.{PerformsStill, known_then, orders_left, same_orders}
use Rattle.cb_core.specs.Parts.{Holding}
use Rattle.cb_core.proofs.WordsTold.{KeepsBatch}

-- what the still desk runs and shows
abbrev pub Ran : Words → List Access → Words → Type 0
Ran x es y = Plain x es y × (IsSized x → IsSized y)

abbrev pub SaysAll : Words → Shown → Type 0
SaysAll x s = IsSized x × Shows x s

-- whoever knows all before and all behind finds every order kept that was
abbrev pub FindsKept : Holding Words → Holding Words → Type 0
FindsKept a b = (s t : Shown) → IsKnown a.desk a.far s → IsKnown b.desk b.far t
    → LeavesOrders s a.far t b.far

-- local memory is as it is known of: so it does not matter who knows it
pub known_alike : (y : Words) (far : FarState) (s t : Shown) → IsKnown y far s → IsKnown y far t
    → LeavesOrders s far t far
known_alike y far s t k l = same_orders s t far (l.shows.memory ∙ sym k.shows.memory)

-- an operation at the desk
pub performs_orders : {rules : List Access → Type 0} {does : List Access → Shown → Shown → Type 0}
    (a b : Holding Words) → (p : PerformsStill a.desk b.desk a.far b.far rules does)
    → ((s : Shown) → IsKnown a.desk a.far s → LeavesWords a.far b.far)
    → KeepsBatch a.far b.far p.events does → FindsKept a b
performs_orders {rules} {does} a b p leaves rows s t k l o kept =
    let shown : SaysAll a.desk s = (k.sized, k.shows) in
    let behind = known_then a.desk b.desk a.far b.far rules does s k p in
    let left = leaves s k in
    known_alike b.desk b.far (played p.events s) t behind l o
    (orders_left s (played p.events s) a.far b.far k.sound behind.sound left
    (rows s k.sound behind.sound left (plain_follows p.events a.desk b.desk s p.ran.0 k.shows).0
    p.looks_first (p.effect s (shown, k.sound))) o kept)
