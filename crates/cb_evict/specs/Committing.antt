-- The set that is kept for a batch, on the way to its commit.
use Rattle.std.specs.Prelude.{◌≡◌, ℕ, ◌<◌, List, Option, Some, None, length, slice_index_or}
use Rattle.std.specs.FinMap as map
use Rattle.cb_member.specs.declared.names.Shard.{Shard}
use Rattle.cb_world.specs.Sets.{Kept, SetMap}

-- a row was put for each of these positions
abbrev pub AreAllPut : List (Option Shard) → Type 0
AreAllPut shards = (p : ℕ) → p < length shards
    → (shard : Shard) × (slice_index_or shards p None ≡ Some shard)

-- a set of that number is kept, with a place for each of these shards
pub record HasPlaces (sets : SetMap) (id : ℕ) (shards : List (Option Shard)) : Type 0 where
  pub kept : Kept
  pub there : map.get sets id ≡ Some kept
  pub places : length kept.set.shards ≡ length shards

-- the kept set has these shards
abbrev pub with_shards : Kept → List Shard → Kept
with_shards kept shards = record kept { set = record kept.set { shards = shards } }
