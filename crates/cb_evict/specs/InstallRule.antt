-- The rule of an install: the parities of an order are those of its batch from here.
use Rattle.std.specs.Prelude.{◌≡◌, ◌≢◌, ◌⊎◌, ℕ, ◌++◌, true, List, Option, None, Some, length}
use Rattle.std.specs.Borrow.{Bor}
use Rattle.cb_gf256.specs.Rows.{HoldBytes}
use Rattle.cb_orders.specs.Done.{EncodeDoneState, IsEncoded}
use Rattle.cb_types.specs.declared.order.EncodeOrder.{EncodeOrder}
use Rattle.cb_types.specs.declared.order.Kept.{Kept}
use Rattle.cb_types.specs.declared.order.Kept.TheVariants.{Encode, Decode}
use Rattle.cb_types.specs.declared.reply.Reply.{Reply}
use Rattle.cb_types.specs.declared.reply.Reply.TheVariants as answer
use Rattle.cb_world.specs.FarState.{FarState}
use Rattle.cb_world.specs.Leaving.{LeavingState}
use Rattle.cb_evict.specs.AbortRule.{HasNoBatch}

-- the batch with these parities, which are made
abbrev pub with_parities : LeavingState → List (List ℕ) → LeavingState
with_parities batch parities = record batch { made = true; parities = parities }

-- the far state in which the batch that is leaving has them
abbrev pub with_made : FarState → LeavingState → List (List ℕ) → FarState
with_made far batch parities = record far { leaving = Some (with_parities batch parities) }

-- the seat keeps no order to encode
pub record HasNoOrder (far new : FarState) (r : Reply) : Type 0 where
  pub reply : r ≡ answer.NoOrder
  pub state : new ≡ far

-- the batch that is leaving has another number than the order, which is told
pub record IsOfAnother (far new : FarState) (r : Reply) (o : EncodeOrder) : Type 0 where
  pub batch : LeavingState
  pub there : far.leaving ≡ Some batch
  pub other : batch.set ≢ o.set
  pub reply : r ≡ answer.Changed (record { n = o.set })
  pub state : new ≡ far

-- the batch of the order is leaving, and has the order's parities from here
pub record HasInstalled (far new : FarState) (r : Reply) (o : EncodeOrder) : Type 0 where
  pub batch : LeavingState
  pub there : far.leaving ≡ Some batch
  pub same : batch.set ≡ o.set
  pub reply : r ≡ answer.Done
  pub parities : List (List ℕ)
  pub count : length parities ≡ length batch.parities
  pub encoded : IsEncoded o parities
  pub bytes : HoldBytes (o.rows ++ parities)
  pub state : new ≡ with_made far batch parities

-- an install of an order: what the seat keeps after it is the order still, where it is refused
abbrev pub Installs : FarState → FarState → Reply → EncodeOrder → Option Kept → Type 0
Installs far new r o keeps = (HasNoBatch far new r × (keeps ≡ Some (Encode o)))
    ⊎ ((IsOfAnother far new r o × (keeps ≡ Some (Encode o)))
    ⊎ (HasInstalled far new r o × (keeps ≡ None)))

-- By what the seat keeps: the reply, the far state afterwards, and what the seat keeps then. It is
-- said by the order alone, whose parities there is one list of.
abbrev pub InstallStep : FarState → FarState → Reply → Option Kept → Option Kept → Type 0
InstallStep far new r None keeps = HasNoOrder far new r × (keeps ≡ None)
InstallStep far new r (Some (Decode o)) keeps =
    HasNoOrder far new r × (keeps ≡ Some (Decode o))
InstallStep far new r (Some (Encode o)) keeps = Installs far new r o keeps

-- the order that a done order is of, where there is one
abbrev pub order_done : Option (Bor EncodeDoneState) → Option Kept
order_done None = None
order_done (Some done) = Some (Encode done.now.order)

-- what a seat keeps of its order after an install: nothing where it is done
abbrev pub kept_behind : Reply → Option Kept → Option Kept
kept_behind answer.Done order = None
kept_behind r order = order
