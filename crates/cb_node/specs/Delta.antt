-- What one delta adds to a row.
use Rattle.std.specs.Prelude.{◌≡◌, ℕ}
use Rattle.cb_member.specs.declared.names.NodeId.{NodeId}
use Rattle.cb_member.specs.declared.names.Shard.{Shard}
use Rattle.cb_gf256.specs.Row.{row_sum, scaled_row}
use Rattle.cb_node.specs.NodesState.{NodesState, known_row, with_row}

-- c times the sum of the rows of two shards is added to the row under the key at the node
abbrev pub with_delta : NodesState → NodeId → ℕ → ℕ → Shard → Shard → NodesState
with_delta state to key c old new =
    let change = row_sum (known_row state old.node old.key) (known_row state new.node new.key) in
    with_row state to key (row_sum (known_row state to key) (scaled_row c change))

-- the shard names that row of that node; its incarnation is not looked at
abbrev pub NamesRow : Shard → NodeId → ℕ → Type 0
NamesRow shard node key = (shard.node.n ≡ node.n) × (shard.key ≡ key)
