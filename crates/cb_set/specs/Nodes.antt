-- The nodes that a set stands on.
use Rattle.std.specs.Prelude.{◌≢◌, ℕ, ◌+◌, ◌++◌, Bool, List, drop, nat_eq, take}
use Rattle.std.specs.List.{AllPairs, list_any}
use Rattle.cb_member.specs.declared.names.NodeId.{NodeId}
use Rattle.cb_member.specs.declared.names.Shard.{Shard}

-- no two shards stand on the same node, lost ones included
abbrev pub OnDistinctNodes : List Shard → Type 0
OnDistinctNodes shards = AllPairs (λ a b. a.node.n ≢ b.node.n) shards

-- the shards of all positions but one
abbrev pub other_shards : List Shard → ℕ → List Shard
other_shards shards position = take position shards ++ drop (position + 1) shards

-- whether a position other than this names the node
abbrev pub names_elsewhere : List Shard → NodeId → ℕ → Bool
names_elsewhere shards node position =
    list_any (λ shard. nat_eq shard.node.n node.n) (other_shards shards position)
