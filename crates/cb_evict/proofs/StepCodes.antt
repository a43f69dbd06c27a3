-- An eviction and the steps of a batch make no other code: what their steps of a still desk leave of
-- the codes of the far state.
use Rattle.std.proofs.Common.{ℕ, Bool, true, false, List, take, inl, inr}
use Rattle.cb_types.specs.declared.reply.Reply.{Reply}
use Rattle.cb_world.specs.declared.shown.Shown.{Shown}
use Rattle.cb_world.specs.FarState.{FarState}
use Rattle.cb_world.specs.Leaving.{LeavingState}
use Rattle.cb_world.specs.Plain.{Words}
use Rattle.cb_world.specs.Sound.{Sound}
use Rattle.cb_world.proofs.Laws.{KeepCodes, codes_same}
use Rattle.cb_evict.specs.AbortStep.{IsAbortStep, given_up, no_batch as none_to_abort}
use Rattle.cb_evict.specs.BeginStep.{BeginsTo, IsBeginStep, begins, few_nodes as nodes_few, few_spans as spans_few, is_leaving}
use Rattle.cb_evict.specs.CommitStep.{IsCommitStep, committed, no_batch as none_to_commit, short}
use Rattle.cb_evict.specs.EvictStep.{IsEvictStep, few_nodes, few_spans, loose_frames, made as set_made}
use Rattle.cb_evict.specs.declared.gathering.Gathered.{Gathered}
use Rattle.cb_evict.specs.Gathering.{HandsOut, IsGatherStep, gathered_reply}
use Rattle.cb_evict.specs.Lengths.{loose_of}
use Rattle.cb_evict.specs.ShipRule.{ShipsRow}
use Rattle.cb_evict.specs.ShipStep.{IsShipStep}
use Rattle.cb_evict.proofs.EvictStays.{batch_codes, committed_codes, given_up_codes, made_codes, shipped_codes}
use Rattle.cb_evict.proofs.LooseLengths.{taken_count}

pub evict_step_codes : (x y : Words) (far new : FarState) (r : Reply) → IsEvictStep x y far new r
    → KeepCodes far new
evict_step_codes x y far new r (few_spans few same) = codes_same far new few.state
evict_step_codes x y far new r (few_nodes few same) = codes_same far new few.state
evict_step_codes x y far new r (set_made m) = let e = m.evicted in
    made_codes far new e.pages (take far.code.k (loose_of far.spans m.pages (loose_frames x far)))
    e.shards e.rows (taken_count far.code.k far.spans (loose_frames x far) m.pages m.longest)
    e.chosen.count e.state

begins_codes : (x y : Words) (far new : FarState) (made : Bool) (so : List (List ℕ) → Type 0)
    (r : Reply) → BeginsTo x y far new made so r → KeepCodes far new
begins_codes x y far new made so r (is_leaving batch there reply state same) =
    codes_same far new state
begins_codes x y far new made so r (spans_few none few same) = codes_same far new few.state
begins_codes x y far new made so r (nodes_few none few same) = codes_same far new few.state
begins_codes x y far new made so r (begins m) = let e = m.begun in
    batch_codes far new e.pages (take far.code.k (loose_of far.spans m.pages (loose_frames x far)))
    e.words made e.parities
    (taken_count far.code.k far.spans (loose_frames x far) m.pages m.longest) e.count e.state

pub begin_step_codes : (x y : Words) (far new : FarState) (r : Reply) → IsBeginStep x y far new r
    → KeepCodes far new
begin_step_codes x y far new r step = begins_codes x y far new true (λ rows. Unit {0}) r step

pub gather_step_codes : (x y : Words) (far new : FarState) (g : Gathered)
    → IsGatherStep x y far new g → KeepCodes far new
gather_step_codes x y far new g step =
    begins_codes x y far new false (HandsOut far g) (gathered_reply g) step

ships_codes : (far new : FarState) (r : Reply) (rows : LeavingState → List (List ℕ))
    → ShipsRow far new r rows → KeepCodes far new
ships_codes far new r rows (inl z) = codes_same far new z.state
ships_codes far new r rows (inr (inl z)) = codes_same far new z.state
ships_codes far new r rows (inr (inr (inl z))) = codes_same far new z.state
ships_codes far new r rows (inr (inr (inr z))) = shipped_codes far new r rows z

pub ship_step_codes : (x y : Words) (far new : FarState) (r : Reply) → IsShipStep x y far new r
    → KeepCodes far new
ship_step_codes x y far new r step = ships_codes far new r _ step.ships

pub commit_step_codes : (s : Shown) (x y : Words) (far new : FarState) (r : Reply) → Sound s far
    → IsCommitStep x y far new r → KeepCodes far new
commit_step_codes s x y far new r sound (none_to_commit z same) = codes_same far new z.state
commit_step_codes s x y far new r sound (short z same) = codes_same far new z.state
commit_step_codes s x y far new r sound (committed z away) =
    committed_codes s far new r sound z

pub abort_step_codes : (x y : Words) (far new : FarState) (r : Reply) → IsAbortStep x y far new r
    → KeepCodes far new
abort_step_codes x y far new r (none_to_abort z same) = codes_same far new z.state
abort_step_codes x y far new r (given_up z back) = given_up_codes far new r z
