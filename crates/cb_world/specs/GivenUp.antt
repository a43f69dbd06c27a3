-- A position of a committed set gives objects up: they are brought in, or freed.
use Rattle.std.specs.Prelude.{◌≡◌, ◌≢◌, ◌⊎◌, ℕ, ◌<◌, true, false, List, None, Some, length, slice_get, slice_index_or}
use Rattle.std.specs.FinMap as map
use Rattle.cb_member.specs.declared.names.NodeId.{NodeId}
use Rattle.cb_member.specs.declared.names.Shard.{Shard}
use Rattle.cb_node.specs.NodesState.{row_under}
use Rattle.cb_set.specs.SetState.{SetState, PositionState, IsRestOf, position_of, live_at, slot_at, with_position}
use Rattle.cb_world.specs.declared.shown.Shown.{Shown}
use Rattle.cb_world.specs.Shown.{object_at}
use Rattle.cb_world.specs.Sets.{set_in}
use Rattle.cb_world.specs.Homes.{home_at}
use Rattle.cb_world.specs.Leaving.{LeavingState}
use Rattle.cb_world.specs.SetWord.{is_broken}
use Rattle.cb_world.specs.Survey.{survey_without}
use Rattle.cb_world.specs.FarState.{FarState}
use Rattle.cb_world.specs.Rooms.{KeepRoom}
use Rattle.cb_world.specs.Stored.{NoKey}
use Rattle.cb_world.specs.FarSound.{batch_rows}
use Rattle.cb_world.specs.SetAdded.{is_far}

-- nothing of the object changed, and the position names it still where it did
pub record IsLeft (s t : Shown) (far new : FarState) (set : SetState) (p : ℕ)
    (left : PositionState) (h : ℕ) : Type 0 where
  pub object : object_at t h ≡ object_at s h
  pub home : home_at new.homes h ≡ home_at far.homes h
  pub stays : (slot : ℕ) → slot_at set p slot ≡ Some h
      → slice_index_or left.slots slot None ≡ Some h

-- the position named the object and does no more, and the object is not far
pub record IsGivenUp (t : Shown) (new : FarState) (set : SetState) (p : ℕ) (left : PositionState)
    (h : ℕ) : Type 0 where
  pub slot : ℕ
  pub named : slot_at set p slot ≡ Some h
  pub gone : (slot : ℕ) → slice_index_or left.slots slot None ≡ Some h → ⊥
  pub home : home_at new.homes h ≡ None
  pub near : is_far (object_at t h) → ⊥

-- the set goes on as this one, and all rows stay
pub record SetGoesOn (far new : FarState) (id : ℕ) (rest : SetState) : Type 0 where
  pub there : set_in new.sets id ≡ Some rest
  pub some_live : (q : ℕ) × (live_at rest q ≡ true)
  pub survey : new.survey ≡ far.survey
  pub rows : (node : NodeId) (key : ℕ) → row_under new.nodes node key ≡ row_under far.nodes node key

-- no position is live: the set is dropped with its rows, and is counted no more
pub record IsDropped (far new : FarState) (id : ℕ) (rest : SetState) : Type 0 where
  pub gone : set_in new.sets id ≡ None
  pub no_live : (q : ℕ) → live_at rest q ≡ false
  pub survey : new.survey ≡ survey_without far.survey id (is_broken far.members rest)
  pub rows_gone : (q : ℕ) (shard : Shard) → slice_get rest.shards q ≡ Some shard
      → row_under new.nodes shard.node shard.key ≡ None
  pub rows_stay : (node : NodeId) (key : ℕ) → NoKey rest.shards key
      → row_under new.nodes node key ≡ row_under far.nodes node key
  pub fewer : (node : NodeId) (key : ℕ) (row : List ℕ) → row_under new.nodes node key ≡ Some row
      → row_under far.nodes node key ≡ Some row

-- a position of a committed set gives objects up, and this is left to it
pub record GivesUp (s t : Shown) (far new : FarState) (id : ℕ) (set : SetState) (p : ℕ)
    (left : PositionState) : Type 0 where
  pub was : set_in far.sets id ≡ Some set
  pub inside : p < length set.positions
  pub rest : IsRestOf (position_of set p) left
  pub others : (j : ℕ) → j ≢ id → map.get new.sets j ≡ map.get far.sets j
  pub after : SetGoesOn far new id (with_position set p left)
      ⊎ IsDropped far new id (with_position set p left)
  pub nodes : length new.nodes.nodes ≡ length far.nodes.nodes
  pub room : KeepRoom far.nodes new.nodes
  pub members : new.members ≡ far.members
  pub leaving : new.leaving ≡ far.leaving
  pub joining : new.joining ≡ far.joining
  pub counts : new.counts ≡ far.counts
  pub batch : (b : LeavingState) → far.leaving ≡ Some b → batch_rows t b ≡ batch_rows s b
  pub each : (h : ℕ) → IsLeft s t far new set p left h ⊎ IsGivenUp t new set p left h
