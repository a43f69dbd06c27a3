-- Many rows put at nodes, and dropped from them.
use Rattle.std.specs.Prelude.{◌≡◌, ℕ, ◌<◌, length, List, [], ◌∷◌, Some, slice_get}
use Rattle.cb_member.specs.declared.names.Shard.{Shard}
use Rattle.cb_node.specs.NodesState.{NodesState, with_row, with_dropped}

-- each row put at the node of the shard at its place, under its key
abbrev pub all_put : NodesState → List Shard → List (List ℕ) → NodesState
all_put nodes [] rows = nodes
all_put nodes (shard ∷ shards) [] = nodes
all_put nodes (shard ∷ shards) (row ∷ rows) =
    all_put (with_row nodes shard.node shard.key row) shards rows

-- the rows of these shards dropped
abbrev pub all_dropped : NodesState → List Shard → NodesState
all_dropped nodes [] = nodes
all_dropped nodes (shard ∷ shards) = all_dropped (with_dropped nodes shard.node shard.key) shards

-- no shard has this key
abbrev pub NoKey : List Shard → ℕ → Type 0
NoKey shards key = (p : ℕ) (shard : Shard) → slice_get shards p ≡ Some shard → shard.key ≡ key → ⊥

-- the nodes of the shards are there
abbrev pub AreThere : NodesState → List Shard → Type 0
AreThere nodes shards = (p : ℕ) (shard : Shard) → slice_get shards p ≡ Some shard
    → shard.node.n < length nodes.nodes
