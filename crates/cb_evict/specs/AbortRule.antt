-- The rule of an abort, and what it does.
use Rattle.std.specs.Prelude.{◌≡◌, ◌⊎◌, ℕ, List, [], None, Some}
use Rattle.cb_types.specs.declared.reply.Reply.{Reply}
use Rattle.cb_types.specs.declared.reply.Reply.TheVariants as answer
use Rattle.cb_world.specs.declared.access.Access.{Access}
use Rattle.cb_world.specs.declared.shown.Shown.{Shown}
use Rattle.cb_world.specs.FarState.{FarState}
use Rattle.cb_world.specs.Leaving.{LeavingState}
use Rattle.cb_world.specs.Now.{now}
use Rattle.cb_world.specs.Reserved.{without_batch}
use Rattle.cb_world.specs.Still.{IsStill}
use Rattle.cb_world.specs.Written.{Writes}
use Rattle.cb_evict.specs.Claiming.{IsOne}
use Rattle.cb_evict.specs.Events.{TouchesOnly}
use Rattle.cb_evict.specs.Restoring.{AreRestored}

-- the object is one of the batch that is leaving
abbrev pub IsOfBatch : FarState → ℕ → Type 0
IsOfBatch far h = (batch : LeavingState) × (far.leaving ≡ Some batch) × IsOne batch.words h

-- no batch is leaving, and nothing changed
pub record HasNoBatch (far new : FarState) (r : Reply) : Type 0 where
  pub none : far.leaving ≡ None
  pub reply : r ≡ answer.NoBatch
  pub state : new ≡ far

-- the batch is given up: no batch is leaving, the rows that were put are dropped, and its set is
-- not kept. Nothing else of the far state changed.
pub record HasGivenUp (far new : FarState) (r : Reply) : Type 0 where
  pub batch : LeavingState
  pub there : far.leaving ≡ Some batch
  pub reply : r ≡ answer.Done
  pub state : new ≡ without_batch far batch

-- the reply of an abort and the far state after it; only objects of the batch are touched
pub record AbortRule (far new : FarState) (r : Reply) (es : List Access) : Type 0 where
  pub answered : HasNoBatch far new r ⊎ HasGivenUp far new r
  pub touches : TouchesOnly (IsOfBatch far) (λ p. ⊥) es

-- The objects of the batch are here again as they were before the begin, every other object and
-- every word is as it was, and no version is written. So the last complete contents of every object
-- stay.
pub record IsAborted (far new : FarState) (batch : LeavingState) (es : List Access) (s t : Shown)
    : Type 0 where
  pub back : AreRestored s t batch.words
  pub nothing : Writes es s []
  pub same_now : (h : ℕ) → now t new h ≡ now s far h

-- where a batch was leaving; else nothing changes
pub record AbortEffect (far new : FarState) (es : List Access) (s t : Shown) : Type 0 where
  pub aborted : (batch : LeavingState) → far.leaving ≡ Some batch → IsAborted far new batch es s t
  pub left : far.leaving ≡ None → IsStill es s t
