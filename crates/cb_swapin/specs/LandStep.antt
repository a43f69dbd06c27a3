-- Landing a row as a step of the still desk: the reply, and every word afterwards.
use Rattle.std.specs.Prelude.{◌≡◌, ◌⊎◌, true, false, Option, None, Some}
use Rattle.cb_types.specs.declared.order.DecodeOrder.{DecodeOrder}
use Rattle.cb_types.specs.declared.order.Kept.{Kept}
use Rattle.cb_types.specs.declared.order.Kept.TheVariants.{Encode, Decode}
use Rattle.cb_types.specs.declared.reply.Reply.{Reply}
use Rattle.cb_types.specs.declared.reply.Reply.TheVariants as answer
use Rattle.cb_world.specs.FarState.{FarState}
use Rattle.cb_world.specs.Plain.{Words}
use Rattle.cb_swapin.specs.LandRule.{live_in}
use Rattle.cb_swapin.specs.SwapStep.{IsBringStep}

-- this reply refuses, and nothing changes
pub record IsRefused (refusal : Reply) (x y : Words) (far new : FarState) (r : Reply) : Type 0 where
  pub reply : r ≡ refusal
  pub words : y ≡ x
  pub same : new ≡ far

-- the order's set is gone, or its position is not live
pub record IsOutdatedStep (o : DecodeOrder) (x y : Words) (far new : FarState) (r : Reply) : Type 0
  where
    pub gone : live_in far o.set o.position ≡ false
    pub refused : IsRefused (answer.Changed (record { n = o.set })) x y far new r

-- else the position is brought in or that is refused, and no row is given out
pub record IsLandingStep (o : DecodeOrder) (x y : Words) (far new : FarState) (r : Reply) : Type 0
  where
    pub live : live_in far o.set o.position ≡ true
    pub brings : IsBringStep (λ set. 0) x y far new o.set o.position r

-- landing the row of an order that a seat keeps leads from the words x and a far state to the words y
-- and another, with this reply
abbrev pub IsLandStep : Words → Words → FarState → FarState → Option Kept → Reply → Type 0
IsLandStep x y far new None r = IsRefused answer.NoOrder x y far new r
IsLandStep x y far new (Some (Encode o)) r = IsRefused answer.NoOrder x y far new r
IsLandStep x y far new (Some (Decode o)) r =
    IsOutdatedStep o x y far new r ⊎ IsLandingStep o x y far new r
