-- A count of turns leaves every order kept.
use Rattle.std.proofs.Common.{◌≡◌, ℕ, List, Option, None, Some, sym, subst}
use Rattle.cb_types.specs.declared.job.Job.{Job}
use Rattle.cb_types.specs.declared.order.Kept.{Kept}
use Rattle.cb_types.specs.declared.order.Kept.TheVariants.{Decode, Encode}
use Rattle.cb_world.specs.declared.shown.Shown.{Shown}
use Rattle.cb_world.specs.FarState.{FarState}
use Rattle.cb_world.specs.Orders.{IsOrderKept, KeepsOrder}
use Rattle.cb_core.specs.Turned.{counted}

-- the counts of turns alone are others
pub recounted_kept : (s : Shown) (far : FarState) (turns : ℕ) (by_job : List ℕ) (o : Kept)
    → IsOrderKept s far o → IsOrderKept s
    (record far { counts = record far.counts { turns = turns; by_job = by_job } }) o
recounted_kept s far turns by_job (Encode o) k =
    record { fits = k.fits; drawn = k.drawn; code = k.code; rows = k.rows }
recounted_kept s far turns by_job (Decode o) k =
    record { fits = k.fits; drawn = k.drawn; apart = k.apart; code = k.code; rows = k.rows }

pub still_kept : (s : Shown) (far : FarState) (job : Job) (o : Kept) → IsOrderKept s far o
    → IsOrderKept s (counted far job) o
still_kept s far job (Encode o) k =
    record { fits = k.fits; drawn = k.drawn; code = k.code; rows = k.rows }
still_kept s far job (Decode o) k =
    record { fits = k.fits; drawn = k.drawn; apart = k.apart; code = k.code; rows = k.rows }

pub counted_kept : (s : Shown) (far mid : FarState) (job : Job) (order : Option Kept)
    → mid ≡ counted far job → KeepsOrder s far order → KeepsOrder s mid order
counted_kept s far mid job None is k = tt
counted_kept s far mid job (Some o) is k =
    subst (λ (f : FarState). IsOrderKept s f o) (sym is) (still_kept s far job o k)
