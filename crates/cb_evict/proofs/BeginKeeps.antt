-- What a begin and a gather keep, from the step alone.
use Rattle.std.proofs.Common.{ℕ, Bool, true, false, List, ap}
use Rattle.cb_types.specs.declared.reply.Reply.{Reply}
use Rattle.cb_world.specs.FarState.{FarState}
use Rattle.cb_world.specs.Plain.{Words}
use Rattle.cb_world.proofs.Laws.{StepKeeps, keeps_same}
use Rattle.cb_evict.specs.BeginStep.{BeginsTo, IsBeginStep, is_leaving, few_spans, few_nodes, begins}
use Rattle.cb_evict.specs.declared.gathering.Gathered.{Gathered}
use Rattle.cb_evict.specs.Gathering.{HandsOut, IsGatherStep, gathered_reply}
use Rattle.cb_evict.proofs.EvictKeeps.{taken_keep}
use Rattle.cb_evict.proofs.FarRest.{rest_kept, rest_of}

begins_keep : (x y : Words) (far new : FarState) (made : Bool) (so : List (List ℕ) → Type 0)
    (r : Reply) → BeginsTo x y far new made so r → StepKeeps x y far new
begins_keep x y far new made so r (is_leaving batch there reply state same) =
    keeps_same x y far new same state
begins_keep x y far new made so r (few_spans none few same) =
    keeps_same x y far new same few.state
begins_keep x y far new made so r (few_nodes none few same) =
    keeps_same x y far new same few.state
begins_keep x y far new made so r (begins m) = record {
  far = rest_kept far new (ap rest_of m.begun.state);
  words = taken_keep x y far far.code.k m.pages _ m.begun.held (λ h i. (m.begun.held.changed h i).pins);
}

pub begin_keeps : (x y : Words) (far new : FarState) (r : Reply) → IsBeginStep x y far new r
    → StepKeeps x y far new
begin_keeps x y far new r step = begins_keep x y far new true (λ rows. Unit {0}) r step

pub gather_keeps : (x y : Words) (far new : FarState) (g : Gathered)
    → IsGatherStep x y far new g → StepKeeps x y far new
gather_keeps x y far new g step =
    begins_keep x y far new false (HandsOut far g) (gathered_reply g) step
