-- The rule of a ship: which row of a leaving batch is put, and where.
use Rattle.std.specs.Prelude.{◌≡◌, ◌⊎◌, ℕ, ◌+◌, ◌<◌, ◌≤◌, ◌++◌, true, false, List, Option, None, Some, drop, length, slice_set, take}
use Rattle.cb_gf256.specs.InRange.{IsInRange}
use Rattle.cb_gf256.specs.Rows.{row_at}
use Rattle.cb_member.specs.declared.names.NodeId.{NodeId}
use Rattle.cb_member.specs.declared.names.Shard.{Shard}
use Rattle.cb_member.specs.Membership.{incarnation}
use Rattle.cb_node.specs.NodesState.{with_row}
use Rattle.cb_types.specs.declared.reply.Reply.{Reply}
use Rattle.cb_types.specs.declared.reply.Reply.TheVariants as answer
use Rattle.cb_world.specs.declared.access.Access.{Access}
use Rattle.cb_world.specs.declared.shown.Shown.{Shown}
use Rattle.cb_world.specs.Choices.{IsLeastNode, MayPut}
use Rattle.cb_world.specs.FarSound.{rows_in}
use Rattle.cb_world.specs.FarState.{FarState}
use Rattle.cb_world.specs.Leaving.{LeavingState}
use Rattle.cb_world.specs.Placed.{leaving_frames}
use Rattle.cb_world.specs.Reserved.{put_shards}
use Rattle.cb_world.specs.SetWord.{IsSpanWord}
use Rattle.cb_world.specs.Still.{IsStill}
use Rattle.cb_evict.specs.AbortRule.{HasNoBatch}
use Rattle.cb_evict.specs.InstallRule.{with_parities}
use Rattle.cb_evict.specs.Loading.{LiesInOne, OnlyLoads}
use Rattle.cb_evict.specs.Waiting.{least_waiting}

-- the shards put at all positions but one, lost ones included
abbrev pub other_puts : List (Option Shard) → ℕ → List Shard
other_puts shards p = put_shards (take p shards) ++ put_shards (drop (p + 1) shards)

-- the shard for the row of a position: on the node with the fewest rows, and then the least number,
-- of those with room on which no shard of another position stands; of its incarnation, and under
-- the next key
pub record IsShardFor (far : FarState) (batch : LeavingState) (p : ℕ) (shard : Shard) : Type 0 where
  pub node : IsLeastNode far.nodes far.members (other_puts batch.shards p) shard.node
  pub incarnation : shard.incarnation ≡ incarnation far.members shard.node
  pub key : shard.key ≡ far.counts.keys

-- the batch once its position has the shard
abbrev pub with_shard_at : LeavingState → ℕ → Shard → LeavingState
with_shard_at batch p shard = record batch { shards = slice_set batch.shards p (Some shard) }

-- the far state once the position of the batch has the shard, whose key is drawn
abbrev pub with_noted : FarState → LeavingState → ℕ → Shard → FarState
with_noted far batch p shard = record far {
  leaving = Some (with_shard_at batch p shard);
  counts = record far.counts { keys = far.counts.keys + 1 };
}

-- and the row is put at the shard's node
abbrev pub with_shipped : FarState → LeavingState → ℕ → Shard → List ℕ → FarState
with_shipped far batch p shard row =
    with_noted (record far { nodes = with_row far.nodes shard.node shard.key row }) batch p shard

-- the row of each position is put, and its node has not crashed since
pub record HasAllShipped (far new : FarState) (r : Reply) : Type 0 where
  pub batch : LeavingState
  pub there : far.leaving ≡ Some batch
  pub none : least_waiting far.members batch.shards ≡ None
  pub reply : r ≡ answer.AllShipped
  pub state : new ≡ far

-- no node can take the row of the least position that waits
pub record HasNoNode (far new : FarState) (r : Reply) : Type 0 where
  pub batch : LeavingState
  pub there : far.leaving ≡ Some batch
  pub position : ℕ
  pub least : least_waiting far.members batch.shards ≡ Some position
  pub none : (node : NodeId)
      → ¬ (MayPut far.nodes far.members (other_puts batch.shards position) node)
  pub reply : r ≡ answer.NoNode
  pub state : new ≡ far

-- parities of the batch, whose code is one of those that are built, that are made of these data rows
pub record AreMadeOf (batch : LeavingState) (rows parities : List (List ℕ)) : Type 0 where
  pub range : IsInRange (length batch.frames) (length batch.parities)
  pub count : length parities ≡ length batch.parities
  pub word : IsSpanWord batch.pages (length batch.frames) (length parities) (rows ++ parities)

-- The batch from which the row of a position is put: it is as it was, where its parities are made or
-- the row is a data row; else its parities are made of these data rows first.
pub data MadeFor (batch : LeavingState) (rows : List (List ℕ)) (p : ℕ) (ready : LeavingState)
    : Type 0 where
  made_before : batch.made ≡ true → ready ≡ batch → MadeFor batch rows p ready
  is_data : p < length batch.frames → ready ≡ batch → MadeFor batch rows p ready
  made_here : batch.made ≡ false → length batch.frames ≤ p → (parities : List (List ℕ))
      → AreMadeOf batch rows parities → ready ≡ with_parities batch parities
      → MadeFor batch rows p ready

-- the row of the least position that waits is put, which is that of these data rows and the batch's
-- parities; where these were due and not made, they are made first. All else is as it was.
pub record HasShipped (far new : FarState) (r : Reply) (rows : LeavingState → List (List ℕ))
    : Type 0 where
  pub batch : LeavingState
  pub there : far.leaving ≡ Some batch
  pub position : ℕ
  pub shard : Shard
  pub least : least_waiting far.members batch.shards ≡ Some position
  pub named : IsShardFor far batch position shard
  pub reply : r ≡ answer.Shipped position
  pub count : length (rows batch) ≡ length batch.frames
  pub ready : LeavingState
  pub made : MadeFor batch (rows batch) position ready
  pub state : new ≡ with_shipped far ready position shard
      (row_at (rows batch ++ ready.parities) position)

-- the reply and the far state afterwards, where a batch has these data rows
abbrev pub ShipsRow : FarState → FarState → Reply → (LeavingState → List (List ℕ)) → Type 0
ShipsRow far new r rows =
    HasNoBatch far new r ⊎ (HasAllShipped far new r ⊎ (HasNoNode far new r
    ⊎ HasShipped far new r rows))

-- nothing is done but that words of frames that are leaving are read
abbrev pub ReadsLeaving : FarState → List Access → Type 0
ReadsLeaving far es = OnlyLoads (LiesInOne far.spans (leaving_frames far.leaving)) es

-- so, whatever was read
pub record ShipRule (far new : FarState) (r : Reply) (es : List Access) : Type 0 where
  pub rows : LeavingState → List (List ℕ)
  pub ships : ShipsRow far new r rows
  pub reads : ReadsLeaving far es

-- no object and no word changes, and the data rows are those of the spans as they stand in memory
pub record ShipEffect (far new : FarState) (r : Reply) (es : List Access) (s t : Shown) : Type 0
  where
    pub still : IsStill es s t
    pub ships : ShipsRow far new r (λ batch. rows_in s batch.pages batch.frames)
