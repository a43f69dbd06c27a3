-- What landing a row does to the objects and the memory.
use Rattle.std.specs.Prelude.{◌≡◌, ℕ, List, Option, None, Some}
use Rattle.cb_orders.specs.Done.{IsDecoded}
use Rattle.cb_types.specs.declared.order.DecodeOrder.{DecodeOrder}
use Rattle.cb_types.specs.declared.order.Kept.{Kept}
use Rattle.cb_types.specs.declared.order.Kept.TheVariants.{Encode, Decode}
use Rattle.cb_types.specs.declared.reply.Reply.{Reply}
use Rattle.cb_types.specs.declared.reply.Reply.TheVariants as answer
use Rattle.cb_world.specs.declared.access.Access.{Access}
use Rattle.cb_world.specs.declared.shown.Shown.{Shown}
use Rattle.cb_world.specs.FarState.{FarState}
use Rattle.cb_swapin.specs.SwapEffect.{IsSwappedIn}

-- the position was swapped in, with the row that the order makes
pub record IsLanded (o : DecodeOrder) (f : ℕ) (far new : FarState) (es : List Access) (s t : Shown)
    : Type 0 where
  pub swapped : IsSwappedIn o.set o.position f far new es s t
  pub made : IsDecoded o swapped.row

-- what landing the row of an order does, by the reply; a refusal changes nothing
abbrev pub LandsRow : DecodeOrder → FarState → FarState → Reply → List Access → Shown → Shown → Type 0
LandsRow o far new (answer.Swapped f) es s t = IsLanded o f far new es s t
LandsRow o far new _ es s t = t ≡ s

-- and by the order that a seat keeps
abbrev pub LandEffect : Option Kept → FarState → FarState → Reply → List Access → Shown → Shown → Type 0
LandEffect None far new r es s t = t ≡ s
LandEffect (Some (Encode o)) far new r es s t = t ≡ s
LandEffect (Some (Decode o)) far new r es s t = LandsRow o far new r es s t
