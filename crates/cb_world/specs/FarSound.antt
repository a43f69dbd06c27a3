-- The far part of the sound world.
use Rattle.std.specs.Prelude.{◌≡◌, ℕ, ◌+◌, ◌*◌, ◌<◌, ◌≤◌, true, false, List, Some, length, slice_get, is_some, map, ◌++◌}
use Rattle.std.specs.List.{list_any}
use Rattle.cb_class.specs.declared.class.Class.{Class}
use Rattle.cb_class.specs.Class.{IsClassOf, pages_of, slots_of, words_of}
use Rattle.cb_gf256.specs.Rows.{row_at}
use Rattle.cb_member.specs.declared.names.NodeId.{NodeId}
use Rattle.cb_member.specs.declared.names.Shard.{Shard}
use Rattle.cb_member.specs.Membership.{Membership, IsMembership, incarnation}
use Rattle.cb_node.specs.NodesState.{NodesState, row_under}
use Rattle.cb_set.specs.SetState.{SetState, position_of, live_at, slot_at}
use Rattle.cb_set.specs.Lost.{is_lost}
use Rattle.cb_world.specs.declared.object.Object.TheVariants as is
use Rattle.cb_world.specs.Memory.{window, words_for}
use Rattle.cb_world.specs.declared.shown.Shown.{Shown}
use Rattle.cb_world.specs.Shown.{object_at}
use Rattle.cb_world.specs.declared.homes.Home.{Home}
use Rattle.cb_world.specs.RowWords.{words_in, row_of}
use Rattle.cb_world.specs.Leaving.{LeavingState}
use Rattle.cb_world.specs.Joining.{JoiningState}
use Rattle.cb_world.specs.Sets.{set_in}
use Rattle.cb_world.specs.Homes.{home_at}
use Rattle.cb_world.specs.Join.{IsJoin}
use Rattle.cb_world.specs.FarState.{FarState}
use Rattle.cb_world.specs.Rooms.{HaveRoom}
use Rattle.cb_world.specs.Surveyed.{IsSurvey}
use Rattle.cb_world.specs.SetWord.{IsSpanWord, IsWordOf, IsShaped}

-- an object that is away has its words in a slot of the row; the pages and the count of slots tell
-- the class
pub record HoldsObject (s : Shown) (pages : ℕ) (row : List ℕ) (slots slot h : ℕ) : Type 0 where
  pub len : ℕ
  pub version : ℕ
  pub words : List ℕ
  pub class : Class
  pub away : object_at s h ≡ is.Far len version words
  pub fits : IsClassOf len class
  pub paged : pages ≡ pages_of class
  pub sized : slots ≡ slots_of class
  pub contents : words ≡ window (words_in row) (slot * words_of class) (words_for len)

-- a word of the set, whose rows have the words of the objects that the slot tables name
pub record IsSetWord (s : Shown) (nodes : NodesState) (m : Membership) (set : SetState)
    (rows : List (List ℕ)) : Type 0 where
  pub word : IsWordOf nodes m set rows
  pub holds : (p slot h : ℕ) → slot_at set p slot ≡ Some h
      → HoldsObject s set.pages (row_at rows p) (length (position_of set p).slots) slot h

-- each committed set is sound
pub record AreSets (s : Shown) (far : FarState) : Type 0 where
  pub shaped : (id : ℕ) (set : SetState) → set_in far.sets id ≡ Some set → IsShaped far.members set
  pub worded : (id : ℕ) (set : SetState) → set_in far.sets id ≡ Some set → (rows : List (List ℕ))
      × IsSetWord s far.nodes far.members set rows
  pub live : (id p : ℕ) (set : SetState) → set_in far.sets id ≡ Some set
      → live_at set p ≡ list_any (λ slot. is_some slot) (position_of set p).slots
  pub kept : (id : ℕ) (set : SetState) → set_in far.sets id ≡ Some set → (p : ℕ)
      × (live_at set p ≡ true)
  pub numbered : (id : ℕ) (set : SetState) → set_in far.sets id ≡ Some set → id < far.counts.sets

-- each far object has one home, and each named slot is one
pub record AreAway (s : Shown) (far : FarState) : Type 0 where
  pub away : (h len v : ℕ) (words : List ℕ) → object_at s h ≡ is.Far len v words → (home : Home)
      × (home_at far.homes h ≡ Some home)
  pub home : (h : ℕ) (home : Home) → home_at far.homes h ≡ Some home → (set : SetState)
      × (set_in far.sets home.set ≡ Some set) × (slot_at set home.position home.slot ≡ Some h)
  pub named : (id p slot h : ℕ) (set : SetState) → set_in far.sets id ≡ Some set
      → slot_at set p slot ≡ Some h
      → home_at far.homes h ≡ Some (record { set = id; position = p; slot = slot })

-- who names a row
pub data Owner : Type 0 where
  of_set : ℕ → ℕ → Owner
  of_leaving : ℕ → Owner
  of_joining : ℕ → Owner

abbrev pub IsShardOf : FarState → Owner → Shard → Type 0
IsShardOf far (of_set id p) shard = (set : SetState) × (set_in far.sets id ≡ Some set)
    × (slice_get set.shards p ≡ Some shard)
IsShardOf far (of_leaving p) shard = (batch : LeavingState) × (far.leaving ≡ Some batch)
    × (slice_get batch.shards p ≡ Some (Some shard))
IsShardOf far (of_joining p) shard = (pair : JoiningState) × (far.joining ≡ Some pair)
    × (slice_get pair.steps p ≡ Some (Some shard))

-- each row at a node belongs to one shard, and the nodes have room for their rows
pub record AreShardRows (far : FarState) : Type 0 where
  pub members : IsMembership far.members
  pub counted : length far.nodes.nodes ≡ length far.members.nodes
  pub room : HaveRoom far.nodes
  pub owned : (node : NodeId) (key : ℕ) (row : List ℕ) → row_under far.nodes node key ≡ Some row
      → (o : Owner) × (shard : Shard) × IsShardOf far o shard × (shard.node.n ≡ node.n)
      × (shard.key ≡ key) × (is_lost far.members shard ≡ false)
  pub one : (o q : Owner) (a b : Shard) → IsShardOf far o a → IsShardOf far q b → a.key ≡ b.key
      → o ≡ q
  pub drawn : (o : Owner) (a : Shard) → IsShardOf far o a → a.key < far.counts.keys
  pub current : (o : Owner) (a : Shard) → IsShardOf far o a → (a.node.n < length far.members.nodes)
      × (a.incarnation ≤ incarnation far.members a.node)

-- the rows of the spans in some frames, of so many pages each, as they stand in memory
abbrev pub rows_in : Shown → ℕ → List ℕ → List (List ℕ)
rows_in s pages frames = map (λ f. row_of (window s.memory (512 * f) (512 * pages))) frames

-- the rows of the spans of a batch as they stand in memory, and its parities
abbrev pub batch_rows : Shown → LeavingState → List (List ℕ)
batch_rows s batch = rows_in s batch.pages batch.frames ++ batch.parities

-- the batch that is leaving: once its parities are made its rows are a word, and until then no
-- parity was put; those that were put and are not lost stand at their nodes, on different nodes
pub record IsBatch (s : Shown) (far : FarState) (batch : LeavingState) : Type 0 where
  pub word : batch.made ≡ true → IsSpanWord batch.pages (length batch.frames)
      (length batch.parities) (batch_rows s batch)
  pub bare : batch.made ≡ false → (p : ℕ) (shard : Shard)
      → slice_get batch.shards p ≡ Some (Some shard) → p < length batch.frames
  pub count : length batch.shards ≡ length batch.frames + length batch.parities
  pub put : (p : ℕ) (shard : Shard) → slice_get batch.shards p ≡ Some (Some shard)
      → is_lost far.members shard ≡ false
      → row_under far.nodes shard.node shard.key ≡ Some (row_at (batch_rows s batch) p)
  pub apart : (p q : ℕ) (a b : Shard) → slice_get batch.shards p ≡ Some (Some a)
      → slice_get batch.shards q ≡ Some (Some b) → a.node.n ≡ b.node.n → p ≡ q

-- the far part but for the pair that is joining and the survey
pub record AwaySound (s : Shown) (far : FarState) : Type 0 where
  pub sets : AreSets s far
  pub away : AreAway s far
  pub rows : AreShardRows far
  pub batch : (b : LeavingState) → far.leaving ≡ Some b → IsBatch s far b

-- the far part of the sound world
pub record FarSound (s : Shown) (far : FarState) : Type 0 where
  pub sound : AwaySound s far
  pub join : (pair : JoiningState) → far.joining ≡ Some pair → IsJoin far pair
  pub survey : IsSurvey far far.survey
