-- The deltas that a parity's step adds at a node, and the words that they are made of.
use Rattle.std.specs.Prelude.{◌≡◌, ℕ, ◌+◌, ◌*◌, ◌<◌, List, Some, length, slice_get}
use Rattle.cb_gf256.specs.Rows.{row_at}
use Rattle.cb_gf256.specs.InRange.{IsInRange}
use Rattle.cb_member.specs.declared.names.NodeId.{NodeId}
use Rattle.cb_member.specs.declared.names.Shard.{Shard}
use Rattle.cb_node.specs.NodesState.{NodesState, held, row_under, with_row}
use Rattle.cb_node.specs.declared.nodes.PutAnswer.{PutAnswer}
use Rattle.cb_node.specs.declared.nodes.PutAnswer.TheVariants.{Full, Stored}
use Rattle.cb_node.specs.Delta.{NamesRow}
use Rattle.cb_set.specs.SetState.{SetState}
use Rattle.cb_world.specs.declared.shown.Shown.{Shown}
use Rattle.cb_world.specs.FarState.{FarState}
use Rattle.cb_world.specs.FarSound.{FarSound}
use Rattle.cb_world.specs.Fetched.{StandAt}
use Rattle.cb_world.specs.Joining.{JoiningState}
use Rattle.cb_world.specs.Merged.{AreTaken}
use Rattle.cb_world.specs.SetWord.{IsSpanWord}
use Rattle.cb_world.specs.Stored.{AreThere}
use Rattle.cb_compact.specs.PartStep.{IsFreshPair}
use Rattle.cb_compact.specs.PatchStep.{IsMergedRow, IsNext, shard_beside}

-- no shard names that row
abbrev pub NoneNames : List Shard → NodeId → ℕ → Type 0
NoneNames shards node key = (p : ℕ) (shard : Shard) → slice_get shards p ≡ Some shard
    → ¬ (NamesRow shard node key)

-- the row stands at the node under the key, beside the rows of two words at these positions
pub record CanPatch (nodes : NodesState) (to : NodeId) (key : ℕ) (a b : List Shard)
    (taken : List ℕ) (wa wb : List (List ℕ)) (row : List ℕ) : Type 0 where
  pub pages : ℕ
  pub target : row_under nodes to key ≡ Some row
  pub wide : length row ≡ 4096 * pages
  pub a_rows : StandAt pages nodes a wa taken
  pub b_rows : StandAt pages nodes b wb taken

-- each shard's row stands at its node, and is that of its position in the word
abbrev pub HaveAllRows : NodesState → List Shard → List (List ℕ) → Type 0
HaveAllRows nodes shards rows = (p : ℕ) (shard : Shard) → slice_get shards p ≡ Some shard
    → row_under nodes shard.node shard.key ≡ Some (row_at rows p)

-- all rows of the words of the pair's sets, of spans of so many pages, stand at the nodes
pub record StandTogether (nodes : NodesState) (pair : JoiningState) (pages k r : ℕ)
    (wa wb : List (List ℕ)) : Type 0 where
  pub a_word : IsSpanWord pages k r wa
  pub b_word : IsSpanWord pages k r wb
  pub a_rows : HaveAllRows nodes pair.shards_a wa
  pub b_rows : HaveAllRows nodes pair.shards_b wb

-- the pair is one of two sets of a code
pub record IsOfCode (nodes : NodesState) (pair : JoiningState) (k r : ℕ) : Type 0 where
  pub range : IsInRange k r
  pub taken : AreTaken k pair.taken
  pub a_count : length pair.shards_a ≡ k + r
  pub b_count : length pair.shards_b ≡ k + r
  pub a_nodes : AreThere nodes pair.shards_a
  pub b_nodes : AreThere nodes pair.shards_b

-- a row can be put under the shard for a position of a pair whose sets stand as they did
pub record IsReadyToPut (s : Shown) (far : FarState) (pair : JoiningState) (a b : SetState) (p : ℕ)
    (shard : Shard) : Type 0 where
  pub sound : FarSound s far
  pub fresh : IsFreshPair far pair a b
  pub next : IsNext pair (length a.positions) p
  pub old : Shard
  pub at : slice_get pair.shards_a p ≡ Some old
  pub beside : shard ≡ shard_beside far old

-- the merged row of a position is put under the shard, or its node is full and nothing changes
abbrev pub PutsMerged : FarState → JoiningState → SetState → SetState → ℕ → Shard → PutAnswer
    → NodesState → Type 0
PutsMerged far pair a b p shard Stored new = (held far.nodes shard.node < far.nodes.room)
    × (row : List ℕ) × IsMergedRow far pair a b p row
    × (new ≡ with_row far.nodes shard.node shard.key row)
PutsMerged far pair a b p shard (Full count) new =
    (held far.nodes shard.node ≡ far.nodes.room) × (new ≡ far.nodes)
