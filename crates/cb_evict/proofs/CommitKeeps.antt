-- What a commit keeps, where all was known.
use Rattle.std.proofs.Common.{ap}
use Rattle.cb_types.specs.declared.reply.Reply.{Reply}
use Rattle.cb_world.specs.declared.shown.Shown.{Shown}
use Rattle.cb_world.specs.FarState.{FarState}
use Rattle.cb_world.specs.Plain.{Words}
use Rattle.cb_world.specs.World.{IsKnown}
use Rattle.cb_world.proofs.Laws.{StepKeeps, keeps_same}
use Rattle.cb_evict.specs.CommitStep.{IsCommitStep, no_batch, short, committed}
use Rattle.cb_evict.proofs.BatchPins.{batch_pins}
use Rattle.cb_evict.proofs.FarRest.{rest_kept, rest_of}

pub commit_keeps : (x y : Words) (far new : FarState) (r : Reply) (s : Shown) → IsKnown x far s
    → IsCommitStep x y far new r → StepKeeps x y far new
commit_keeps x y far new r s k (no_batch none same) = keeps_same x y far new same none.state
commit_keeps x y far new r s k (short waits same) = keeps_same x y far new same waits.state
commit_keeps x y far new r s k (committed c away) = record {
  far = rest_kept far new (ap rest_of c.state);
  words = batch_pins x y far s c.batch k c.there _ away (λ i d l. (away.changed i d l).pins);
}
