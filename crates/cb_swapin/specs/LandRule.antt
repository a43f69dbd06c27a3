-- The rule of landing a row that was made by an order.
use Rattle.std.specs.Prelude.{◌≡◌, ◌⊎◌, ℕ, Bool, true, false, List, [], Option, None, Some}
use Rattle.std.specs.Borrow.{Bor}
use Rattle.std.specs.Option.{option_map, option_map_or}
use Rattle.cb_orders.specs.Done.{DecodeDoneState}
use Rattle.cb_set.specs.SetState.{live_at}
use Rattle.cb_types.specs.declared.order.DecodeOrder.{DecodeOrder}
use Rattle.cb_types.specs.declared.order.Kept.{Kept}
use Rattle.cb_types.specs.declared.order.Kept.TheVariants.{Encode, Decode}
use Rattle.cb_types.specs.declared.reply.Reply.{Reply}
use Rattle.cb_types.specs.declared.reply.Reply.TheVariants as answer
use Rattle.cb_world.specs.declared.access.Access.{Access}
use Rattle.cb_world.specs.FarState.{FarState}
use Rattle.cb_world.specs.Sets.{set_in}
use Rattle.cb_swapin.specs.SwapRule.{BringsRule}

-- the order that was run, where one was
abbrev pub done_order : Option (Bor DecodeDoneState) → Option Kept
done_order done = option_map (λ d. Decode d.now.order) done

-- whether a committed set has this number and this position of it is live
abbrev pub live_in : FarState → ℕ → ℕ → Bool
live_in far id p = option_map_or (λ set. live_at set p) (set_in far.sets id) false

-- the order's set is gone, or its position is not live: this is answered, and nothing changes
pub record IsOutdated (o : DecodeOrder) (far new : FarState) (r : Reply) (es : List Access) : Type 0
  where
    pub gone : live_in far o.set o.position ≡ false
    pub reply : r ≡ answer.Changed (record { n = o.set })
    pub same : new ≡ far
    pub none : es ≡ []

-- the position is brought in, or that is refused, as by a swap-in that gives no row out
pub record IsLanding (o : DecodeOrder) (far new : FarState) (r : Reply) (es : List Access) : Type 0
  where
    pub live : live_in far o.set o.position ≡ true
    pub brings : BringsRule (λ set. 0) o.set o.position far new r es

-- there is no order to make a row
pub record HasNoOrder (far new : FarState) (r : Reply) (es : List Access) : Type 0 where
  pub reply : r ≡ answer.NoOrder
  pub same : new ≡ far
  pub none : es ≡ []

-- the reply of landing the row of an order that a seat keeps, and the far state after it
abbrev pub LandRule : Option Kept → FarState → FarState → Reply → List Access → Type 0
LandRule None far new r es = HasNoOrder far new r es
LandRule (Some (Encode o)) far new r es = HasNoOrder far new r es
LandRule (Some (Decode o)) far new r es = IsOutdated o far new r es ⊎ IsLanding o far new r es
