-- The set that a leaving batch will be.
use Rattle.std.specs.Prelude.{◌≡◌, ◌≢◌, ℕ, ◌<◌, false, List, [], ◌∷◌, Option, None, Some, length, map as mapped}
use Rattle.std.specs.FinMap as map
use Rattle.cb_gf256.specs.InRange.{IsInRange}
use Rattle.cb_member.specs.declared.names.Shard.{Shard}
use Rattle.cb_set.specs.SetState.{PositionState, SetState, filled_position, set_of}
use Rattle.cb_span.specs.Contents.{Contents}
use Rattle.cb_world.specs.Joining.{JoiningState}
use Rattle.cb_world.specs.Leaving.{LeavingState}
use Rattle.cb_world.specs.FarState.{FarState, span_in}
use Rattle.cb_world.specs.Stored.{all_dropped}

-- the slot table of a span
abbrev pub table_of : Option Contents → List (Option ℕ)
table_of None = []
table_of (Some span) = span.slots

-- the position of the span in a frame
abbrev pub position_for : List (Option Contents) → ℕ → PositionState
position_for spans f = filled_position (table_of (span_in spans f))

-- the set of this number and length of the spans in some frames, each at its place
abbrev pub set_from : ℕ → ℕ → List Shard → List (Option Contents) → List ℕ → SetState
set_from id pages shards spans frames = set_of id pages shards (mapped (position_for spans) frames)

-- neither set of the pair that is joining has the number
abbrev pub IsUnpaired : FarState → ℕ → Type 0
IsUnpaired far id = (pair : JoiningState) → far.joining ≡ Some pair → (pair.a ≢ id) × (pair.b ≢ id)

-- The batch's number is drawn, and under it the set is kept that the batch will be, so that a
-- commit takes no memory: it has the slot tables of the spans and a place for each shard, and is
-- not committed. No set that is joining has the number.
pub record IsReserved (far : FarState) (batch : LeavingState) : Type 0 where
  pub drawn : batch.set < far.counts.sets
  pub unpaired : IsUnpaired far batch.set
  pub range : IsInRange (length batch.frames) (length batch.parities)
  pub blank : List Shard
  pub places : length blank ≡ length batch.shards
  pub kept : map.get far.sets batch.set ≡ Some (record {
    set = set_from batch.set batch.pages blank far.spans batch.frames;
    committed = false;
  })

-- the shards whose rows were put, in order of position
abbrev pub put_shards : List (Option Shard) → List Shard
put_shards [] = []
put_shards (None ∷ shards) = put_shards shards
put_shards (Some shard ∷ shards) = shard ∷ put_shards shards

-- the far state once its batch is given up: the rows that were put are dropped, and the set that it
-- would have been is not kept
abbrev pub without_batch : FarState → LeavingState → FarState
without_batch far batch = record far {
  sets = map.remove far.sets batch.set;
  nodes = all_dropped far.nodes (put_shards batch.shards);
  leaving = None;
}
