-- Which positions of a batch that is leaving wait for their rows to be put.
use Rattle.std.specs.Prelude.{ℕ, ◌<◌, Bool, true, List, Option, None, Some, All, IfSome, length, position, filter, slice_index_or}
use Rattle.std.specs.List.{range_with_len}
use Rattle.cb_member.specs.declared.names.Shard.{Shard}
use Rattle.cb_member.specs.Membership.{Membership}
use Rattle.cb_set.specs.Lost.{is_lost}

-- whether a row is still to be put: none was, or the one that was is lost
abbrev pub is_waiting : Membership → Option Shard → Bool
is_waiting m None = true
is_waiting m (Some shard) = is_lost m shard

-- whether the position of these shards waits
abbrev pub waits_at : Membership → List (Option Shard) → ℕ → Bool
waits_at m shards p = is_waiting m (slice_index_or shards p None)

-- the positions that wait, in order
abbrev pub waiting : Membership → List (Option Shard) → List ℕ
waiting m shards = filter (waits_at m shards) (range_with_len 0 (length shards))

-- the least position that waits, if there is one
abbrev pub least_waiting : Membership → List (Option Shard) → Option ℕ
least_waiting m shards = position (is_waiting m) shards

-- the nodes of the rows that were put are among the members
abbrev pub PutAtMembers : Membership → List (Option Shard) → Type 0
PutAtMembers m shards = All (λ s. IfSome s (λ shard. shard.node.n < length m.nodes)) shards
