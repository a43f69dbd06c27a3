-- How the far state changes by the steps of the pair that is joining.
use Rattle.std.specs.Prelude.{◌≡◌, ◌≢◌, ℕ, ◌+◌, ◌<◌, ◌≤◌, ◌⊎◌, true, List, Option, None, Some, length, slice_get, slice_set, if◌then◌else◌}
use Rattle.cb_gf256.specs.Rows.{row_at}
use Rattle.cb_member.specs.declared.names.NodeId.{NodeId}
use Rattle.cb_member.specs.declared.names.Shard.{Shard}
use Rattle.cb_node.specs.NodesState.{row_under}
use Rattle.cb_set.specs.SetState.{SetState, live_at, position_of, slot_at}
use Rattle.cb_set.specs.Matched.{IsMatched}
use Rattle.cb_world.specs.Joining.{JoiningState}
use Rattle.cb_world.specs.Sets.{set_in}
use Rattle.cb_world.specs.Homes.{home_at}
use Rattle.cb_world.specs.Join.{IsFresh, IsJoinWord, IsBeside}
use Rattle.cb_world.specs.FarState.{FarState}
use Rattle.cb_world.specs.Rooms.{KeepRoom}
use Rattle.cb_world.specs.Merged.{takes, AreTaken}

-- the pair with one step more
abbrev pub with_step : JoiningState → ℕ → Shard → JoiningState
with_step pair p shard = record pair { steps = slice_set pair.steps p (Some shard) }

-- what a change of the pair alone leaves
pub record LeavesSets (far new : FarState) : Type 0 where
  pub sets : new.sets ≡ far.sets
  pub homes : new.homes ≡ far.homes
  pub members : new.members ≡ far.members
  pub leaving : new.leaving ≡ far.leaving
  pub survey : new.survey ≡ far.survey
  pub drawn : new.counts.sets ≡ far.counts.sets
  pub keys : far.counts.keys ≤ new.counts.keys
  pub nodes : length new.nodes.nodes ≡ length far.nodes.nodes
  pub room : KeepRoom far.nodes new.nodes

-- a step is done: the row is put beside a's row of the position, and is the merged word's
pub record IsStepped (far new : FarState) (pair : JoiningState) (a b : SetState) (p : ℕ)
    (old shard : Shard) (row : List ℕ) : Type 0 where
  pub was : far.joining ≡ Some pair
  pub fresh : IsFresh far pair a b
  pub now : new.joining ≡ Some (with_step pair p shard)
  pub undone : slice_get pair.steps p ≡ Some None
  pub at : slice_get pair.shards_a p ≡ Some old
  pub beside : IsBeside old shard
  pub key : (far.counts.keys ≤ shard.key) × (shard.key < new.counts.keys)
  pub sort : (k r : ℕ) → length pair.steps ≡ k + r → length a.positions ≡ k → p < k
      → takes pair.taken p ≡ true
  pub merged : (pages k r : ℕ) (m : List (List ℕ)) → a.pages ≡ pages → length pair.steps ≡ k + r
      → length a.positions ≡ k → IsJoinWord far pair pages k r m → row ≡ row_at m p
  pub put : row_under new.nodes shard.node shard.key ≡ Some row
  pub stay : (node : NodeId) (key : ℕ) → key ≢ shard.key
      → row_under new.nodes node key ≡ row_under far.nodes node key
  pub only : (node : NodeId) (key : ℕ) (other : List ℕ) → row_under new.nodes node key ≡ Some other
      → (row_under far.nodes node key ≡ Some other) ⊎ ((shard.node.n ≡ node.n) × (shard.key ≡ key))
  pub left : LeavesSets far new

-- no new row of the pair has the key
abbrev pub NoStep : JoiningState → ℕ → Type 0
NoStep pair key = (p : ℕ) (shard : Shard) → slice_get pair.steps p ≡ Some (Some shard)
    → shard.key ≢ key

-- the pair is given up and its new rows are dropped
pub record IsParted (far new : FarState) (pair : JoiningState) : Type 0 where
  pub was : far.joining ≡ Some pair
  pub now : new.joining ≡ None
  pub gone : (p : ℕ) (shard : Shard) → slice_get pair.steps p ≡ Some (Some shard)
      → row_under new.nodes shard.node shard.key ≡ None
  pub stay : (node : NodeId) (key : ℕ) → NoStep pair key
      → row_under new.nodes node key ≡ row_under far.nodes node key
  pub fewer : (node : NodeId) (key : ℕ) (row : List ℕ) → row_under new.nodes node key ≡ Some row
      → row_under far.nodes node key ≡ Some row
  pub left : LeavesSets far new

-- the shard of a position of the merged set: the new one where the position has a step, else a's
abbrev pub merged_shard : Option (Option Shard) → Option Shard → Option Shard
merged_shard None old = old
merged_shard (Some None) old = old
merged_shard (Some (Some shard)) old = Some shard

-- c is the merged set of a and b
pub record IsMergedSet (pair : JoiningState) (a b c : SetState) : Type 0 where
  pub done : (p : ℕ) → p < length pair.steps → (p < length a.positions → takes pair.taken p ≡ true)
      → (shard : Shard) × (slice_get pair.steps p ≡ Some (Some shard))
  pub shards : (p : ℕ)
      → slice_get c.shards p ≡ merged_shard (slice_get pair.steps p) (slice_get pair.shards_a p)
  pub count : length c.shards ≡ length a.shards
  pub positions : length c.positions ≡ length a.positions
  pub pages : c.pages ≡ a.pages
  pub content : (p : ℕ)
      → position_of c p ≡ (if live_at b p then position_of b p else position_of a p)

-- a shard whose row is dropped by the commit: b's, or a's beside a new one
abbrev pub IsReplaced : JoiningState → Shard → Type 0
IsReplaced pair shard = ((p : ℕ) × (slice_get pair.shards_b p ≡ Some shard))
    ⊎ ((p : ℕ) × (fresh : Shard) × (slice_get pair.steps p ≡ Some (Some fresh))
    × (slice_get pair.shards_a p ≡ Some shard))

-- neither set names the object, and its home stays
pub record IsUnnamed (far new : FarState) (a b : SetState) (h : ℕ) : Type 0 where
  pub home : home_at new.homes h ≡ home_at far.homes h
  pub absent_a : (p slot : ℕ) → slot_at a p slot ≡ Some h → ⊥
  pub absent_b : (p slot : ℕ) → slot_at b p slot ≡ Some h → ⊥

-- the object's home is now in the merged set
pub record IsRehomed (new : FarState) (id : ℕ) (c : SetState) (h : ℕ) : Type 0 where
  pub position : ℕ
  pub slot : ℕ
  pub named : slot_at c position slot ≡ Some h
  pub home : home_at new.homes h ≡ Some (record { set = id; position = position; slot = slot })

-- the pair is committed: one new set stands for both
pub record IsCommitted (far new : FarState) (pair : JoiningState) (a b c : SetState) (id : ℕ) : Type
    0 where
  pub was : far.joining ≡ Some pair
  pub now : new.joining ≡ None
  pub fresh : IsFresh far pair a b
  pub merged : IsMergedSet pair a b c
  pub added : set_in new.sets id ≡ Some c
  pub a_gone : set_in new.sets pair.a ≡ None
  pub b_gone : set_in new.sets pair.b ≡ None
  pub others : (q : ℕ) → q ≢ id → q ≢ pair.a → q ≢ pair.b → set_in new.sets q ≡ set_in far.sets q
  pub drawn : (far.counts.sets ≤ id) × (id < new.counts.sets)
  pub keys : far.counts.keys ≤ new.counts.keys
  pub rows_gone : (shard : Shard) → IsReplaced pair shard
      → row_under new.nodes shard.node shard.key ≡ None
  pub rows_stay : (node : NodeId) (key : ℕ)
      → ((shard : Shard) → IsReplaced pair shard → shard.key ≢ key)
      → row_under new.nodes node key ≡ row_under far.nodes node key
  pub fewer : (node : NodeId) (key : ℕ) (row : List ℕ) → row_under new.nodes node key ≡ Some row
      → row_under far.nodes node key ≡ Some row
  pub nodes : length new.nodes.nodes ≡ length far.nodes.nodes
  pub room : KeepRoom far.nodes new.nodes
  pub members : new.members ≡ far.members
  pub leaving : new.leaving ≡ far.leaving
  pub survey : new.survey ≡ far.survey
  pub each : (h : ℕ) → IsUnnamed far new a b h ⊎ IsRehomed new id c h

-- a pair of matched sets begins to join
pub record IsBegun (far new : FarState) (pair : JoiningState) (a b : SetState) : Type 0 where
  pub was : far.joining ≡ None
  pub now : new.joining ≡ Some pair
  pub a_there : set_in far.sets pair.a ≡ Some a
  pub b_there : set_in far.sets pair.b ≡ Some b
  pub a_shards : pair.shards_a ≡ a.shards
  pub b_shards : pair.shards_b ≡ b.shards
  pub distinct : pair.a ≢ pair.b
  pub matched : IsMatched far.members a b
  pub positions : length b.positions ≡ length a.positions
  pub shards : length b.shards ≡ length a.shards
  pub taken : AreTaken (length a.positions) pair.taken
  pub live : (p : ℕ) → takes pair.taken p ≡ live_at b p
  pub undone : (p : ℕ) (shard : Shard) → slice_get pair.steps p ≡ Some (Some shard) → ⊥
  pub count : length pair.steps ≡ length a.shards
  pub nodes : new.nodes ≡ far.nodes
  pub left : LeavesSets far new
