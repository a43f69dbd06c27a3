-- A fresh set is committed.
use Rattle.std.specs.Prelude.{◌≡◌, ◌≢◌, ◌⊎◌, ℕ, ◌<◌, ◌≤◌, true, false, List, None, Some, length, slice_get, is_some}
use Rattle.std.specs.List.{list_any}
use Rattle.std.specs.FinMap as map
use Rattle.cb_gf256.specs.Rows.{row_at}
use Rattle.cb_member.specs.declared.names.NodeId.{NodeId}
use Rattle.cb_member.specs.declared.names.Shard.{Shard}
use Rattle.cb_node.specs.NodesState.{row_under}
use Rattle.cb_set.specs.SetState.{SetState, position_of, live_at, slot_at}
use Rattle.cb_set.specs.Lost.{is_lost}
use Rattle.cb_world.specs.declared.object.Object.{Object}
use Rattle.cb_world.specs.declared.object.Object.TheVariants as is
use Rattle.cb_world.specs.declared.shown.Shown.{Shown}
use Rattle.cb_world.specs.Shown.{object_at}
use Rattle.cb_world.specs.Sets.{set_in}
use Rattle.cb_world.specs.Homes.{home_at}
use Rattle.cb_world.specs.Leaving.{LeavingState}
use Rattle.cb_world.specs.FarState.{FarState}
use Rattle.cb_world.specs.SetWord.{IsSpanWord, IsShaped}
use Rattle.cb_set.specs.SetState.{parities}
use Rattle.cb_world.specs.Reserved.{IsUnpaired}
use Rattle.cb_world.specs.Rooms.{KeepRoom}
use Rattle.cb_world.specs.Stored.{NoKey}
use Rattle.cb_world.specs.FarSound.{HoldsObject, Owner, IsShardOf, batch_rows}

abbrev pub is_far : Object → Type 0
is_far (is.Empty v) = ⊥
is_far (is.Far len v words) = Unit {0}
is_far (is.Here len place) = ⊥
is_far (is.Claimed len place v words) = ⊥

-- nothing of the object changed, and the set does not name it
pub record IsUntouched (s t : Shown) (far new : FarState) (set : SetState) (h : ℕ) : Type 0 where
  pub object : object_at t h ≡ object_at s h
  pub home : home_at new.homes h ≡ home_at far.homes h
  pub absent : (p slot : ℕ) → slot_at set p slot ≡ Some h → ⊥

-- the object is put away into the set
pub record IsMovedIntoSet (s t : Shown) (far new : FarState) (id : ℕ) (set : SetState)
    (rows : List (List ℕ)) (h : ℕ) : Type 0 where
  pub position : ℕ
  pub slot : ℕ
  pub named : slot_at set position slot ≡ Some h
  pub once : (p q : ℕ) → slot_at set p q ≡ Some h → (p ≡ position) × (q ≡ slot)
  pub home : home_at new.homes h ≡ Some (record { set = id; position = position; slot = slot })
  pub before : is_far (object_at s h) → ⊥
  pub holds : HoldsObject t set.pages (row_at rows position)
      (length (position_of set position).slots) slot h

-- a fresh set is committed, with these rows: no set of its number was, also none that is joining,
-- and no shard has a key of its shards
pub record IsSetAdded (s t : Shown) (far new : FarState) (id : ℕ) (set : SetState)
    (rows : List (List ℕ)) : Type 0 where
  pub shape : IsShaped far.members set
  pub code : IsSpanWord set.pages (length set.positions) (parities set) rows
  pub lives : (p : ℕ) → live_at set p ≡ list_any (λ slot. is_some slot) (position_of set p).slots
  pub some_live : (p : ℕ) × (live_at set p ≡ true)
  pub added : set_in new.sets id ≡ Some set
  pub fresh : set_in far.sets id ≡ None
  pub others : (j : ℕ) → j ≢ id → map.get new.sets j ≡ map.get far.sets j
  pub drawn : (id < new.counts.sets) × (far.counts.sets ≤ new.counts.sets)
  pub keys : (p : ℕ) (shard : Shard) → slice_get set.shards p ≡ Some shard
      → shard.key < new.counts.keys
  pub fresh_keys : (o : Owner) (a : Shard) → IsShardOf far o a → NoKey set.shards a.key
  pub more_keys : far.counts.keys ≤ new.counts.keys
  pub keys_apart : (p q : ℕ) (a b : Shard) → slice_get set.shards p ≡ Some a
      → slice_get set.shards q ≡ Some b → a.key ≡ b.key → p ≡ q
  pub up : (p : ℕ) (shard : Shard) → slice_get set.shards p ≡ Some shard
      → is_lost far.members shard ≡ false
  pub put : (p : ℕ) (shard : Shard) → slice_get set.shards p ≡ Some shard
      → row_under new.nodes shard.node shard.key ≡ Some (row_at rows p)
  pub stay : (node : NodeId) (key : ℕ) → NoKey set.shards key
      → row_under new.nodes node key ≡ row_under far.nodes node key
  pub only : (node : NodeId) (key : ℕ) (row : List ℕ) → row_under new.nodes node key ≡ Some row
      → (row_under far.nodes node key ≡ Some row)
      ⊎ ((p : ℕ) × (shard : Shard) × (slice_get set.shards p ≡ Some shard)
      × (shard.node.n ≡ node.n) × (shard.key ≡ key))
  pub nodes : length new.nodes.nodes ≡ length far.nodes.nodes
  pub room : KeepRoom far.nodes new.nodes
  pub members : new.members ≡ far.members
  pub leaving : new.leaving ≡ far.leaving
  pub joining : new.joining ≡ far.joining
  pub survey : new.survey ≡ far.survey
  pub batch : (b : LeavingState) → far.leaving ≡ Some b → batch_rows t b ≡ batch_rows s b
  pub unpaired : IsUnpaired far id
  pub each : (h : ℕ) → IsUntouched s t far new set h ⊎ IsMovedIntoSet s t far new id set rows h
