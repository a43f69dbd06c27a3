-- The rows that are given out to make one row of a set's word.
use Rattle.std.specs.Prelude.{◌≡◌, ℕ, ◌+◌, ◌*◌, ◌<◌, if◌then◌else◌, List, Some, length, slice_get, slice_index}
use Rattle.cb_gf256.specs.Rows.{row_at}
use Rattle.cb_member.specs.declared.names.Shard.{Shard}
use Rattle.cb_member.specs.Membership.{Membership}
use Rattle.cb_set.specs.SetState.{SetState}
use Rattle.cb_set.specs.Lost.{lost_at}
use Rattle.cb_node.specs.NodesState.{NodesState, row_under}

-- the row of a word of spans of so many pages at a position stands at the node of the position's
-- shard
pub record StandsAt (pages : ℕ) (nodes : NodesState) (shards : List Shard)
    (rows : List (List ℕ)) (p : ℕ) : Type 0 where
  pub shard : Shard
  pub at : slice_get shards p ≡ Some shard
  pub node : shard.node.n < length nodes.nodes
  pub row : row_under nodes shard.node shard.key ≡ Some (row_at rows p)
  pub wide : length (row_at rows p) ≡ 4096 * pages

-- and so at each of these positions
abbrev pub StandAt : ℕ → NodesState → List Shard → List (List ℕ) → List ℕ → Type 0
StandAt pages nodes shards rows positions = (i : ℕ) → i < length positions
    → StandsAt pages nodes shards rows (slice_index positions i)

-- the nodes once so many rows more were given out
abbrev pub with_rows_given : NodesState → ℕ → NodesState
with_rows_given nodes n = record nodes { given = nodes.given + n }

-- how many rows are given out for the row of a position: its own, or one at each of k others
abbrev pub rows_needed : Membership → SetState → ℕ → ℕ
rows_needed m set position = if lost_at m set.shards position then length set.positions else 1

-- row i of a table is the one that stands under the shard of position present[i]
pub record AreGiven (nodes : NodesState) (shards : List Shard) (present : List ℕ)
    (rows : List (List ℕ)) : Type 0 where
  pub count : length rows ≡ length present
  pub given : (i : ℕ) → i < length present → (shard : Shard)
      × (slice_get shards (slice_index present i) ≡ Some shard)
      × (row_under nodes shard.node shard.key ≡ Some (row_at rows i))
