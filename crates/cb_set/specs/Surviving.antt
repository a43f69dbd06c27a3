-- The positions whose shards are not lost.
use Rattle.std.specs.Prelude.{ℕ, ◌+◌, List, [], ◌∷◌, if◌then◌else◌}
use Rattle.cb_member.specs.declared.names.Shard.{Shard}
use Rattle.cb_member.specs.Membership.{Membership}
use Rattle.cb_set.specs.Lost.{is_lost}

-- the same where the first of the shards has that position
abbrev pub surviving_from : Membership → ℕ → List Shard → List ℕ
surviving_from m p [] = []
surviving_from m p (shard ∷ shards) =
    if is_lost m shard
    then surviving_from m (p + 1) shards
    else p ∷ surviving_from m (p + 1) shards

-- the positions of the shards that are not lost, in order
abbrev pub surviving : Membership → List Shard → List ℕ
surviving m shards = surviving_from m 0 shards
