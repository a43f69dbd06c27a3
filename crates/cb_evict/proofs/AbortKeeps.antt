-- What an abort keeps, where all was known.
use Rattle.std.proofs.Common.{ap, ◌∙◌}
use Rattle.cb_ptr.specs.Word.{pins_of}
use Rattle.cb_types.specs.declared.reply.Reply.{Reply}
use Rattle.cb_world.specs.declared.shown.Shown.{Shown}
use Rattle.cb_world.specs.FarState.{FarState}
use Rattle.cb_world.specs.Plain.{Words}
use Rattle.cb_world.specs.World.{IsKnown}
use Rattle.cb_world.proofs.Laws.{StepKeeps, keeps_same}
use Rattle.cb_evict.specs.AbortStep.{IsAbortStep, no_batch, given_up}
use Rattle.cb_evict.proofs.BatchPins.{batch_claimed, batch_pins}
use Rattle.cb_evict.proofs.FarRest.{rest_kept, rest_of}

pub abort_keeps : (x y : Words) (far new : FarState) (r : Reply) (s : Shown) → IsKnown x far s
    → IsAbortStep x y far new r → StepKeeps x y far new
abort_keeps x y far new r s k (no_batch none same) = keeps_same x y far new same none.state
abort_keeps x y far new r s k (given_up g back) = record {
  far = rest_kept far new (ap rest_of g.state);
  words = batch_pins x y far s g.batch k g.there _ back (λ i d l.
      ap pins_of (back.changed i d l) ∙ (batch_claimed x y far s g.batch k g.there i d l).free.1);
}
