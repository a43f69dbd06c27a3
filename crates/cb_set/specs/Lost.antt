-- Which shards of a set are lost, and with which crash.
use Rattle.std.specs.Prelude.{◌≡◌, ℕ, ◌<◌, Bool, false, Option, is_some, List, [], length, All, position, slice_get}
use Rattle.std.specs.List.{filter_map}
use Rattle.std.specs.Option.{option_map, option_map_or}
use Rattle.cb_member.specs.declared.names.Loss.{Loss}
use Rattle.cb_member.specs.declared.names.Shard.{Shard}
use Rattle.cb_member.specs.Membership.{Membership, crashed_at}
use Rattle.cb_set.specs.SetState.{SetState}

-- a shard is lost where its node has crashed in the shard's incarnation, with the epoch of that
-- crash
abbrev pub loss_of : Membership → Shard → Option Loss
loss_of m shard =
    option_map (λ epoch. record { node = shard.node; epoch = epoch })
    (crashed_at m shard.node shard.incarnation)

-- whether the shard is lost
abbrev pub is_lost : Membership → Shard → Bool
is_lost m shard = is_some (loss_of m shard)

-- whether the position's shard is lost
abbrev pub lost_at : Membership → List Shard → ℕ → Bool
lost_at m shards place = option_map_or (is_lost m) (slice_get shards place) false

-- the least position whose shard is lost, if there is one
abbrev pub least_lost : Membership → List Shard → Option ℕ
least_lost m shards = position (is_lost m) shards

-- the lost shards in order of position, each as its node and the epoch of the crash that ended its
-- incarnation
abbrev pub lost : Membership → List Shard → List Loss
lost m shards = filter_map (loss_of m) shards

-- no shard of the set is lost
abbrev pub IsWhole : Membership → SetState → Type 0
IsWhole m set = lost m set.shards ≡ []

-- the nodes of the shards are among the members
abbrev pub NodesAreMembers : Membership → List Shard → Type 0
NodesAreMembers m shards = All (λ shard. shard.node.n < length m.nodes) shards
