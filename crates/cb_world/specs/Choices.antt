-- Which node a row is put at.
use Rattle.std.specs.Prelude.{◌≡◌, ◌⊎◌, ℕ, ◌<◌, ◌≤◌, Bool, true, false, Option, None, Some, nat_eq, nat_lt, List, length, count_by, ◌&&◌}
use Rattle.std.specs.List.{list_any, range_with_len}
use Rattle.cb_member.specs.declared.names.NodeId.{NodeId}
use Rattle.cb_member.specs.declared.names.Shard.{Shard}
use Rattle.cb_member.specs.Membership.{Membership, alive}
use Rattle.cb_node.specs.NodesState.{NodesState, held}

-- whether the node has room: it is alive and holds fewer rows than it has room for
abbrev pub has_room : NodesState → Membership → NodeId → Bool
has_room nodes m node = alive m node && nat_lt (held nodes node) nodes.room

-- the node of a number
abbrev pub numbered : ℕ → NodeId
numbered n = record { n = n }

-- how many nodes have room
abbrev pub room_count : NodesState → Membership → ℕ
room_count nodes m =
    count_by (λ n. has_room nodes m (numbered n)) (range_with_len 0 (length nodes.nodes))

-- whether one of the shards stands on the node
abbrev pub stands_on : List Shard → NodeId → Bool
stands_on shards node = list_any (λ shard. nat_eq shard.node.n node.n) shards

-- a row can be put at the node, on which none of these shards stands
pub record MayPut (nodes : NodesState) (m : Membership) (shards : List Shard) (node : NodeId)
    : Type 0 where
  pub within : node.n < length nodes.nodes
  pub room : has_room nodes m node ≡ true
  pub spare : stands_on shards node ≡ false

-- the node holds fewer rows than the other, where there is another
abbrev pub HoldsFewer : NodesState → NodeId → Option NodeId → Type 0
HoldsFewer nodes node None = Unit {0}
HoldsFewer nodes node (Some other) = held nodes node < held nodes other

-- the node holds fewer rows than the other, or as many and has no greater number
abbrev pub IsBefore : NodesState → NodeId → NodeId → Type 0
IsBefore nodes node other = (held nodes node < held nodes other)
    ⊎ ((held nodes node ≡ held nodes other) × (node.n ≤ other.n))

-- of the nodes at which a row can be put, the one with the fewest rows, and then the least number
pub record IsLeastNode (nodes : NodesState) (m : Membership) (shards : List Shard) (node : NodeId)
    : Type 0 where
  pub may : MayPut nodes m shards node
  pub least : (other : NodeId) → MayPut nodes m shards other → IsBefore nodes node other
