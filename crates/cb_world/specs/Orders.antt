-- What an order that a seat keeps says of the far state and of local memory.
use Rattle.std.specs.Prelude.{◌≡◌, ◌≢◌, ℕ, ◌<◌, ◌≤◌, false, List, Option, None, Some, length, slice_index}
use Rattle.cb_gf256.specs.Rows.{row_at}
use Rattle.cb_set.specs.SetState.{SetState, parities}
use Rattle.cb_types.specs.declared.order.DecodeOrder.{DecodeOrder}
use Rattle.cb_types.specs.declared.order.EncodeOrder.{EncodeOrder}
use Rattle.cb_types.specs.declared.order.Kept.{Kept}
use Rattle.cb_types.specs.declared.order.Kept.TheVariants.{Encode, Decode}
use Rattle.cb_types.specs.Orders.{IsDecodable, IsEncodable}
use Rattle.cb_world.specs.declared.shown.Shown.{Shown}
use Rattle.cb_world.specs.FarSound.{rows_in}
use Rattle.cb_world.specs.FarState.{FarState}
use Rattle.cb_world.specs.Leaving.{LeavingState}
use Rattle.cb_world.specs.Seats.{SeatState, order_of}
use Rattle.cb_world.specs.Sets.{set_in}
use Rattle.cb_world.specs.SetWord.{IsWordOf, is_broken}

-- The order can be run, and its number was drawn. Where the batch of this number is leaving, the
-- order is of its code, and its rows are those of its spans as they stand in memory.
pub record IsEncodeKept (s : Shown) (far : FarState) (o : EncodeOrder) : Type 0 where
  pub fits : IsEncodable o
  pub drawn : o.set < far.counts.sets
  pub code : (batch : LeavingState) → far.leaving ≡ Some batch → batch.set ≡ o.set
      → (o.k ≡ length batch.frames) × (o.r ≡ length batch.parities)
  pub rows : (batch : LeavingState) → far.leaving ≡ Some batch → batch.set ≡ o.set
      → o.rows ≡ rows_in s batch.pages batch.frames

-- The order can be run, its number was drawn, and no batch that is leaving has it. Where the set is
-- committed, the order is of its code; and where it has lost no more shards than it has parities, the
-- rows are those of its word at the positions that the order names.
pub record IsDecodeKept (far : FarState) (o : DecodeOrder) : Type 0 where
  pub fits : IsDecodable o
  pub drawn : o.set < far.counts.sets
  pub apart : (batch : LeavingState) → far.leaving ≡ Some batch → batch.set ≢ o.set
  pub code : (set : SetState) → set_in far.sets o.set ≡ Some set
      → (o.k ≡ length set.positions) × (o.r ≡ parities set)
  pub rows : (set : SetState) → set_in far.sets o.set ≡ Some set
      → is_broken far.members set ≡ false
      → (word : List (List ℕ)) → IsWordOf far.nodes far.members set word
      → (i : ℕ) → i < length o.present
      → row_at o.rows i ≡ row_at word (slice_index o.present i)

-- so, of an order of either kind
abbrev pub IsOrderKept : Shown → FarState → Kept → Type 0
IsOrderKept s far (Encode o) = IsEncodeKept s far o
IsOrderKept s far (Decode o) = IsDecodeKept far o

-- and of what a seat keeps, where that may be nothing
abbrev pub KeepsOrder : Shown → FarState → Option Kept → Type 0
KeepsOrder s far None = Unit {0}
KeepsOrder s far (Some o) = IsOrderKept s far o

-- and of what each seat keeps
abbrev pub AreOrdersKept : Shown → FarState → List SeatState → Type 0
AreOrdersKept s far seats = (seat : ℕ) → KeepsOrder s far (order_of seats seat)

-- every order that was kept there is kept here
abbrev pub LeavesOrders : Shown → FarState → Shown → FarState → Type 0
LeavesOrders s far t new = (o : Kept) → IsOrderKept s far o → IsOrderKept t new o

-- One committed set before a change and after it: it is of the same code, it was not broken before
-- unless it is so after, and each of its words before is one after.
pub record WasSet (far new : FarState) (id : ℕ) (set : SetState) : Type 0 where
  pub was : SetState
  pub there : set_in far.sets id ≡ Some was
  pub code : (length was.positions ≡ length set.positions) × (parities was ≡ parities set)
  pub whole : is_broken new.members set ≡ false → is_broken far.members was ≡ false
  pub words : (word : List (List ℕ)) → IsWordOf far.nodes far.members was word
      → IsWordOf new.nodes new.members set word

-- What a change leaves of the words of sets and of the batch: no number falls; a committed set whose
-- number was drawn before, and was no batch's, is one of before; and a batch whose number was drawn
-- before was leaving then, of the same spans in the same frames and with as many parities.
pub record LeavesWords (far new : FarState) : Type 0 where
  pub drawn : far.counts.sets ≤ new.counts.sets
  pub sets : (id : ℕ) (set : SetState) → set_in new.sets id ≡ Some set → id < far.counts.sets
      → ((batch : LeavingState) → far.leaving ≡ Some batch → batch.set ≢ id)
      → WasSet far new id set
  pub batch : (b : LeavingState) → new.leaving ≡ Some b → b.set < far.counts.sets
      → (old : LeavingState) × (far.leaving ≡ Some old) × (old.set ≡ b.set)
      × (old.pages ≡ b.pages) × (old.frames ≡ b.frames)
      × (length old.parities ≡ length b.parities)
