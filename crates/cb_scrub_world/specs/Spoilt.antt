-- A world of which one row is wrong, and one that is sound again.
use Rattle.std.specs.Prelude.{◌≡◌, ℕ, ◌≤◌, List, Some, slice_get}
use Rattle.cb_member.specs.declared.names.Shard.{Shard}
use Rattle.cb_node.specs.NodesState.{with_row}
use Rattle.cb_set.specs.SetState.{SetState, parities}
use Rattle.cb_world.specs.FarState.{FarState}
use Rattle.cb_world.specs.Sets.{set_in}
use Rattle.cb_world.specs.Sound.{Sound}
use Rattle.cb_world.specs.declared.shown.Shown.{Shown}
use Rattle.cb_scrub_world.specs.declared.scrubbed.Scrubbed.{Scrubbed}
use Rattle.cb_scrub_world.specs.declared.scrubbed.Scrubbed.TheVariants.{Set}
use Rattle.cb_scrub_world.specs.Scrub.{with_nodes}

-- another row stands in place of one row of a committed set with two parities or more; all else is
-- as it was
pub record IsSpoilt (right : FarState) (id : ℕ) (far : FarState) : Type 0 where
  pub set : SetState
  pub committed : set_in right.sets id ≡ Some set
  pub two : 2 ≤ parities set
  pub position : ℕ
  pub shard : Shard
  pub at : slice_get set.shards position ≡ Some shard
  pub row : List ℕ
  pub spoilt : far ≡ with_nodes right (with_row right.nodes shard.node shard.key row)

-- the far state is the right one but for the count of rows given out, and it is sound
pub record IsSoundAgain (s : Shown) (right new : FarState) : Type 0 where
  pub as_was : new ≡ with_nodes right (record right.nodes { given = new.nodes.given })
  pub sound : Sound s new

-- where the set that was examined had one row spoilt in a sound world, the world is sound again
abbrev pub RestoresWorld : FarState → Scrubbed → FarState → Type 0
RestoresWorld far (Set id found) new =
    (s : Shown) (right : FarState) → Sound s right → IsSpoilt right id.n far
    → IsSoundAgain s right new
RestoresWorld far _ new = Unit {0}
