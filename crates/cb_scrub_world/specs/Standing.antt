-- The rows of a set as they stand at their nodes.
use Rattle.std.specs.Prelude.{◌≡◌, ℕ, ◌*◌, ◌<◌, true, List, length, map}
use Rattle.cb_member.specs.declared.names.Shard.{Shard}
use Rattle.cb_node.specs.NodesState.{NodesState, has, known_row}

-- the shard's row is at its node under its key, and is as long as a span of so many pages
pub record RowStands (nodes : NodesState) (pages : ℕ) (shard : Shard) : Type 0 where
  pub node : shard.node.n < length nodes.nodes
  pub there : has nodes shard.node shard.key ≡ true
  pub wide : length (known_row nodes shard.node shard.key) ≡ 4096 * pages

-- the rows of these shards, each from its node, under its key
abbrev pub rows_of : NodesState → List Shard → List (List ℕ)
rows_of nodes shards = map (λ shard. known_row nodes shard.node shard.key) shards
