-- The rows of a new set, and the set.
use Rattle.std.specs.Prelude.{◌≡◌, ℕ, ◌+◌, ◌^◌, ◌<◌, ◌≤◌, ◌++◌, true, false, All, List, Option, Some, length, take, slice_get}
use Rattle.std.specs.FinMap as map
use Rattle.cb_gf256.specs.Rows.{HoldBytes}
use Rattle.cb_gf256.specs.CodeWord.{IsCodeWord}
use Rattle.cb_member.specs.declared.names.Shard.{Shard}
use Rattle.cb_member.specs.Membership.{incarnation}
use Rattle.cb_node.specs.NodesState.{NodesState, has, held}
use Rattle.cb_set.specs.Nodes.{OnDistinctNodes}
use Rattle.cb_set.specs.SetState.{SetState}
use Rattle.cb_world.specs.Choices.{IsLeastNode}
use Rattle.cb_span.specs.Contents.{Contents}
use Rattle.cb_world.specs.FarState.{FarState, span_in}
use Rattle.cb_world.specs.Reserved.{set_from}
use Rattle.cb_world.specs.Stored.{all_put}

-- the shard for a position: on the least node of those with room on which no earlier shard stands,
-- in its incarnation, under the next row key. The rows of earlier positions are put at other nodes,
-- so that the counts of the nodes that are left are those before the call.
pub record IsShardAt (far : FarState) (shards : List Shard) (p : ℕ) (shard : Shard) : Type 0 where
  pub node : IsLeastNode far.nodes far.members (take p shards) shard.node
  pub incarnation : shard.incarnation ≡ incarnation far.members shard.node
  pub key : shard.key ≡ far.counts.keys + p

-- one for each of n positions
pub record AreShards (far : FarState) (n : ℕ) (shards : List Shard) : Type 0 where
  pub count : length shards ≡ n
  pub each : (p : ℕ) (shard : Shard) → slice_get shards p ≡ Some shard
      → IsShardAt far shards p shard

-- a row can be put under the key of each shard: the nodes are there, no two keys are the same, and
-- no node has a row under its key
pub record CanPut (nodes : NodesState) (shards : List Shard) : Type 0 where
  pub within : (p : ℕ) (shard : Shard) → slice_get shards p ≡ Some shard
      → shard.node.n < length nodes.nodes
  pub apart : (p q : ℕ) (a b : Shard) → slice_get shards p ≡ Some a → slice_get shards q ≡ Some b
      → a.key ≡ b.key → p ≡ q
  pub fresh : (p : ℕ) (shard : Shard) → slice_get shards p ≡ Some shard
      → has nodes shard.node shard.key ≡ false

-- there is room for a row at the node of each shard, and no two shards stand on one node
pub record HasRoomFor (nodes : NodesState) (shards : List Shard) : Type 0 where
  pub room : (p : ℕ) (shard : Shard) → slice_get shards p ≡ Some shard
      → held nodes shard.node < nodes.room
  pub distinct : OnDistinctNodes shards

-- the data rows and the parities of a set can be put under these shards, one for each
pub record CanStore (nodes : NodesState) (shards : List Shard) (rows parities : List (List ℕ))
    : Type 0 where
  pub count : length shards ≡ length rows + length parities
  pub few : length shards < 2 ^ 32
  pub can : CanPut nodes shards
  pub fits : HasRoomFor nodes shards

-- the spans in these frames are there, no more than a set with these shards has positions
pub record HasSpans (spans : List (Option Contents)) (shards : List Shard) (frames : List ℕ)
    : Type 0 where
  pub there : All (λ f. (span : Contents) × (span_in spans f ≡ Some span)) frames
  pub few : length shards < 2 ^ 32
  pub count : length frames ≤ length shards

-- the set of the spans in some frames, of so many pages each, with the next number
abbrev pub set_for : FarState → ℕ → List Shard → List ℕ → SetState
set_for far pages shards frames = set_from far.counts.sets pages shards far.spans frames

-- the far state with a committed set of the next number; that and the keys of its rows are drawn
abbrev pub with_kept : FarState → SetState → ℕ → FarState
with_kept far set rows = record far {
  sets = map.insert far.sets far.counts.sets (record { set = set; committed = true });
  counts = record far.counts { sets = far.counts.sets + 1; keys = far.counts.keys + rows };
}

-- the far state with the set of the spans in some frames, whose rows are put at its shards' nodes;
-- its number and the keys of its rows are drawn
abbrev pub with_set : FarState → ℕ → List Shard → List ℕ → List (List ℕ) → FarState
with_set far pages shards frames rows = record far {
  sets = map.insert far.sets far.counts.sets
      (record { set = set_for far pages shards frames; committed = true });
  nodes = all_put far.nodes shards rows;
  counts = record far.counts {
    sets = far.counts.sets + 1;
    keys = far.counts.keys + length shards;
  };
}

-- a set is kept, whose rows are these data rows and their parities
pub record KeepsSet (far new : FarState) (pages : ℕ) (shards : List Shard) (frames : List ℕ)
    (rows : List (List ℕ)) : Type 0 where
  pub parities : List (List ℕ)
  pub count : length shards ≡ length frames + length parities
  pub word : IsCodeWord (length frames) (length parities) (rows ++ parities)
  pub bytes : HoldBytes (rows ++ parities)
  pub state : new ≡ with_set far pages shards frames (rows ++ parities)
