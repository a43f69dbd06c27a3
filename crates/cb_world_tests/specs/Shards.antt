-- The shard of a position of the first set.
use Rattle.std.specs.Prelude.{◌≡◌, ℕ, ◌≤◌, Some, slice_get}
use Rattle.cb_member.specs.declared.names.Shard.{Shard}
use Rattle.cb_set.specs.SetState.{SetState, parities}
use Rattle.cb_world.specs.FarState.{FarState}
use Rattle.cb_world.specs.Sets.{set_in}

-- the shard is that of a position of the committed set 0, which has two parities or more
pub record IsFirstSets (far : FarState) (position : ℕ) (shard : Shard) : Type 0 where
  pub set : SetState
  pub committed : set_in far.sets 0 ≡ Some set
  pub two : 2 ≤ parities set
  pub at : slice_get set.shards position ≡ Some shard
