-- A gather: a begin whose parities are made later, from the rows that an order hands out.
use Rattle.std.specs.Prelude.{◌≡◌, ℕ, false, List, Option, Some}
use Rattle.cb_types.specs.declared.order.EncodeOrder.{EncodeOrder}
use Rattle.cb_types.specs.declared.order.Kept.{Kept}
use Rattle.cb_types.specs.declared.order.Kept.TheVariants.{Encode}
use Rattle.cb_types.specs.declared.reply.Reply.{Reply}
use Rattle.cb_types.specs.declared.reply.Reply.TheVariants as answer
use Rattle.cb_world.specs.declared.access.Access.{Access}
use Rattle.cb_world.specs.declared.shown.Shown.{Shown}
use Rattle.cb_world.specs.FarState.{FarState}
use Rattle.cb_world.specs.Orders.{IsEncodeKept}
use Rattle.cb_world.specs.Plain.{Words}
use Rattle.cb_evict.specs.declared.gathering.Gathered.{Gathered}
use Rattle.cb_evict.specs.declared.gathering.Gathered.TheVariants as gathered
use Rattle.cb_evict.specs.BeginEffect.{BeginEffect}
use Rattle.cb_evict.specs.BeginRule.{BeginsBy}
use Rattle.cb_evict.specs.BeginStep.{BeginsTo}

-- the reply of the job: an order is handed out where a batch begins
abbrev pub gathered_reply : Gathered → Reply
gathered_reply (gathered.Order o) = answer.Batch (record { n = o.set })
gathered_reply (gathered.Answer r) = r

-- what the seat keeps after it: a new order replaces the one before
abbrev pub gathered_order : Option Kept → Gathered → Option Kept
gathered_order before (gathered.Order o) = Some (Encode o)
gathered_order before (gathered.Answer r) = before

-- the order to make the parities of these rows, of the code in force and of the next set number
abbrev pub order_for : FarState → List (List ℕ) → EncodeOrder
order_for far rows = record {
  set = far.counts.sets;
  k = far.code.k;
  r = far.code.r;
  rows = rows;
}

-- so much is handed out where these rows are those of a batch that begins
abbrev pub HandsOut : FarState → Gathered → List (List ℕ) → Type 0
HandsOut far g rows = g ≡ gathered.Order (order_for far rows)

-- what a gather answers, and the far state after it
abbrev pub GatherRule : FarState → FarState → Gathered → List Access → Type 0
GatherRule far new g es = BeginsBy far new false (HandsOut far g) (gathered_reply g) es

-- what it does: what a begin does, and the order that is handed out is kept then
pub record GatherEffect (far new : FarState) (g : Gathered) (es : List Access) (s t : Shown)
    : Type 0 where
  pub did : BeginEffect far new (gathered_reply g) es s t
  pub kept : (o : EncodeOrder) → g ≡ gathered.Order o → IsEncodeKept t new o

-- a gather at the still desk: a begin that makes no parities, with the order of the rows as they
-- stand in memory
abbrev pub IsGatherStep : Words → Words → FarState → FarState → Gathered → Type 0
IsGatherStep x y far new g = BeginsTo x y far new false (HandsOut far g) (gathered_reply g)
