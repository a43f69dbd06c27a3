-- The parts of a ship.
use Rattle.std.specs.Prelude.{◌≡◌, ℕ, ◌+◌, ◌-◌, ◌<◌, ◌≤◌, ◌++◌, All, List, Option, None, Some, length}
use Rattle.std.specs.List.{Contains}
use Rattle.cb_gf256.specs.InRange.{IsInRange}
use Rattle.cb_gf256.specs.Rows.{row_at}
use Rattle.cb_member.specs.declared.names.NodeId.{NodeId}
use Rattle.cb_member.specs.declared.names.Shard.{Shard}
use Rattle.cb_node.specs.NodesState.{NodesState, with_row}
use Rattle.cb_span.specs.Contents.{Contents}
use Rattle.cb_world.specs.declared.access.Access.{Access}
use Rattle.cb_world.specs.declared.shown.Shown.{Shown}
use Rattle.cb_world.specs.Choices.{MayPut}
use Rattle.cb_world.specs.FarSound.{rows_in}
use Rattle.cb_world.specs.FarState.{FarState}
use Rattle.cb_world.specs.FrameWords.{OwnsRun}
use Rattle.cb_world.specs.Leaving.{LeavingState}
use Rattle.cb_world.specs.Placed.{leaving_frames}
use Rattle.cb_world.specs.SetWord.{IsSpanWord}
use Rattle.cb_evict.specs.declared.next_put.NextPut.{NextPut}
use Rattle.cb_evict.specs.declared.next_put.NextPut.TheVariants as next
use Rattle.cb_evict.specs.Evicting.{ReadsSpans}
use Rattle.cb_evict.specs.InstallRule.{with_parities}
use Rattle.cb_evict.specs.Loading.{AreOfLength, LiesInRuns, LoadsRuns, OnlyLoads}
use Rattle.cb_evict.specs.ShipRule.{IsShardFor, MadeFor, ReadsLeaving, other_puts, with_shipped}
use Rattle.cb_evict.specs.Waiting.{least_waiting}

-- what is to be put next of a batch, and under which shard
abbrev pub IsNextPutOf : FarState → LeavingState → NextPut → Type 0
IsNextPutOf far batch next.NoBatch = ⊥
IsNextPutOf far batch next.AllShipped = least_waiting far.members batch.shards ≡ None
IsNextPutOf far batch next.NoNode = (p : ℕ) × (least_waiting far.members batch.shards ≡ Some p)
    × ((node : NodeId) → ¬ (MayPut far.nodes far.members (other_puts batch.shards p) node))
IsNextPutOf far batch (next.Put p shard) = (least_waiting far.members batch.shards ≡ Some p)
    × IsShardFor far batch p shard

-- so, where one is leaving
abbrev pub IsNextPut : FarState → NextPut → Type 0
IsNextPut far next.NoBatch = far.leaving ≡ None
IsNextPut far x = (batch : LeavingState) × (far.leaving ≡ Some batch) × IsNextPutOf far batch x

-- a position of the batch that is leaving waits for its row to be put
abbrev pub Waits : FarState → Type 0
Waits far = (batch : LeavingState) × (p : ℕ) × (far.leaving ≡ Some batch)
    × (least_waiting far.members batch.shards ≡ Some p)

-- the caller owns all words of the spans of the batch
abbrev pub OwnsBatch : Shown → LeavingState → Type 0
OwnsBatch s batch = (f : ℕ) → Contains batch.frames f → OwnsRun s f batch.pages

-- the data rows serve for those of the batch as they stand in memory: the batch from which the row
-- of the position is put is made of these, and the row is theirs
pub record IsPutOf (s : Shown) (batch : LeavingState) (rows : List (List ℕ)) (p : ℕ)
    (ready : LeavingState) : Type 0 where
  pub made : MadeFor batch (rows_in s batch.pages batch.frames) p ready
  pub row : row_at (rows ++ ready.parities) p
      ≡ row_at (rows_in s batch.pages batch.frames ++ ready.parities) p

-- the row of a position of the batch is put under the shard
pub record PutsRow (runs : List Access → Type 0) (shows : Shown → Type 0) (far new : FarState)
    (batch : LeavingState) (p : ℕ) (shard : Shard) : Type 0 where
  pub events : List Access
  pub ran : runs events
  pub reads : ReadsLeaving far events
  pub rows : List (List ℕ)
  pub count : length rows ≡ length batch.frames
  pub ready : LeavingState
  pub made : MadeFor batch rows p ready
  pub state : new ≡ with_shipped far ready p shard (row_at (rows ++ ready.parities) p)
  pub of_batch : (s : Shown) → shows s → OwnsBatch s batch → IsPutOf s batch rows p ready

-- a parity of the batch is due, whose frames are among so many and whose code is one of those that
-- are built
pub record IsParityDue (frames : ℕ) (spans : List (Option Contents)) (batch : LeavingState) (p : ℕ)
    : Type 0 where
  pub behind : length batch.frames ≤ p
  pub within : p < length batch.frames + length batch.parities
  pub place : p < length batch.shards
  pub count : length batch.shards ≡ length batch.frames + length batch.parities
  pub few : length batch.shards ≤ 20
  pub range : IsInRange (length batch.frames) (length batch.parities)
  pub below : All (λ f. f + batch.pages ≤ frames) batch.frames
  pub long : AreOfLength spans batch.pages batch.frames

-- words of the runs of so many frames from these on are read, and nothing else is done
abbrev pub LoadsAny : (List Access → Type 0) → ℕ → List ℕ → Type 0
LoadsAny runs pages frames = (es : List Access) × runs es × OnlyLoads (LiesInRuns pages frames) es

-- the runs of so many frames from these on are read into rows, of which these are the parities
pub record LoadsParities (runs : List Access → Type 0) (shows : Shown → Type 0) (pages : ℕ)
    (frames : List ℕ) (parities : List (List ℕ)) : Type 0 where
  pub rows : List (List ℕ)
  pub loads : LoadsRuns runs shows pages frames rows
  pub count : length rows ≡ length frames
  pub word : IsSpanWord pages (length frames) (length parities) (rows ++ parities)

-- the parities of the batch are made, and the one of a position is put under the shard
pub record PutsMade (runs : List Access → Type 0) (shows : Shown → Type 0)
    (nodes new_nodes : NodesState) (batch new_batch : LeavingState) (p : ℕ) (shard : Shard)
    : Type 0 where
  pub parities : List (List ℕ)
  pub loads : LoadsParities runs shows batch.pages batch.frames parities
  pub count : length parities ≡ length batch.parities
  pub batch_then : new_batch ≡ with_parities batch parities
  pub nodes_then : new_nodes ≡ with_row nodes shard.node shard.key
      (row_at parities (p - length batch.frames))

-- nothing is put, and words of frames that are leaving are read
abbrev pub PutsNothing : (List Access → Type 0) → FarState → Type 0
PutsNothing runs far = ReadsSpans runs far.spans (leaving_frames far.leaving)
