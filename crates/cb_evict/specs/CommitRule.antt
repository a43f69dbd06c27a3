-- The rule of a commit, and what it does.
use Rattle.std.specs.Prelude.{◌≡◌, ◌⊎◌, ℕ, ◌≤◌, true, List, [], None, Some, length}
use Rattle.std.specs.FinMap as map
use Rattle.cb_types.specs.declared.handle.SetId.{SetId}
use Rattle.cb_types.specs.declared.reply.Reply.{Reply}
use Rattle.cb_types.specs.declared.reply.Reply.TheVariants as answer
use Rattle.cb_world.specs.declared.access.Access.{Access}
use Rattle.cb_world.specs.declared.shown.Shown.{Shown}
use Rattle.cb_world.specs.FarState.{FarState}
use Rattle.cb_world.specs.Leaving.{LeavingState}
use Rattle.cb_world.specs.Now.{now}
use Rattle.cb_world.specs.Reserved.{put_shards, set_from}
use Rattle.cb_world.specs.Still.{IsStill}
use Rattle.cb_world.specs.Written.{Writes}
use Rattle.cb_evict.specs.AbortRule.{HasNoBatch, IsOfBatch}
use Rattle.cb_evict.specs.Closing.{HaveHomes, with_homes}
use Rattle.cb_evict.specs.Events.{TouchesOnly}
use Rattle.cb_evict.specs.Sending.{AreSent}
use Rattle.cb_evict.specs.Waiting.{waiting}

-- positions of the batch wait: their rows were not put, or were lost since. The batch stays.
pub record HasShort (far new : FarState) (r : Reply) : Type 0 where
  pub batch : LeavingState
  pub there : far.leaving ≡ Some batch
  pub some : 1 ≤ length (waiting far.members batch.shards)
  pub reply : r ≡ answer.Short (waiting far.members batch.shards)
  pub state : new ≡ far

-- the far state in which the set of the batch is committed, with the shards whose rows were put,
-- and no batch is leaving
abbrev pub with_committed : FarState → LeavingState → FarState
with_committed far batch = record far {
  sets = map.insert far.sets batch.set (record {
    set = set_from batch.set batch.pages (put_shards batch.shards) far.spans batch.frames;
    committed = true;
  });
  leaving = None;
}

-- No position of the batch waits: its set is committed, its objects have their homes there, and its
-- frames are free. Nothing else of the far state changed.
pub record HasCommitted (far new : FarState) (r : Reply) : Type 0 where
  pub batch : LeavingState
  pub there : far.leaving ≡ Some batch
  pub whole : waiting far.members batch.shards ≡ []
  pub reply : r ≡ answer.Set (record { n = batch.set })
  pub homes : HaveHomes far.spans batch.frames batch.set far.homes new.homes
  pub state : new ≡ with_homes (with_committed far batch) batch.frames new.homes

-- the reply of a commit and the far state after it; only objects of the batch are touched
pub record CommitRule (far new : FarState) (r : Reply) (es : List Access) : Type 0 where
  pub answered : HasNoBatch far new r ⊎ (HasShort far new r ⊎ HasCommitted far new r)
  pub touches : TouchesOnly (IsOfBatch far) (λ p. ⊥) es

-- The objects of the batch are away, cold, with the versions and the words that they had, every
-- other object and every word is as it was, and no version is written. So the last complete
-- contents of every object stay.
pub record IsBatchCommitted (far new : FarState) (batch : LeavingState) (es : List Access)
    (s t : Shown)
    : Type 0 where
  pub sent : AreSent s t batch.words
  pub nothing : Writes es s []
  pub same_now : (h : ℕ) → now t new h ≡ now s far h

-- by the reply; a refusal changes nothing
pub record CommitEffect (far new : FarState) (r : Reply) (es : List Access) (s t : Shown) : Type 0 where
  pub committed : (batch : LeavingState) (id : SetId) → far.leaving ≡ Some batch
      → r ≡ answer.Set id → IsBatchCommitted far new batch es s t
  pub left : ((id : SetId) → r ≡ answer.Set id → ⊥) → IsStill es s t
