-- An eviction and the steps of a batch write no version.
use Rattle.std.proofs.Common.{◌≡◌, ℕ, Bool, true, false, List, [], inl, inr}
use Rattle.cb_types.specs.declared.handle.SetId.{SetId}
use Rattle.cb_types.specs.declared.reply.Reply.{Reply}
use Rattle.cb_types.specs.declared.reply.Reply.TheVariants as answer
use Rattle.cb_world.specs.declared.access.Access.{Access}
use Rattle.cb_world.specs.declared.shown.Shown.{Shown}
use Rattle.cb_world.specs.Choices.{room_count}
use Rattle.cb_world.specs.FarState.{FarState}
use Rattle.cb_world.specs.Written.{Writes}
use Rattle.cb_evict.specs.AbortRule.{AbortEffect, AbortRule}
use Rattle.cb_evict.specs.BeginEffect.{BeginEffect}
use Rattle.cb_evict.specs.BeginRule.{BeginRule, BeginsBy}
use Rattle.cb_evict.specs.declared.gathering.Gathered.{Gathered}
use Rattle.cb_evict.specs.Gathering.{GatherEffect, GatherRule, HandsOut, gathered_reply}
use Rattle.cb_evict.specs.CommitRule.{CommitEffect, CommitRule}
use Rattle.cb_evict.specs.EvictEffect.{EvictEffect}
use Rattle.cb_evict.specs.EvictRule.{EvictRule}
use Rattle.cb_evict.specs.Lengths.{most_loose}
use Rattle.cb_evict.proofs.Composed.{few_nodes, few_spans}

pub evict_unwritten : (far new : FarState) (r : Reply) (es : List Access) (s t : Shown)
    → EvictRule far new r es → EvictEffect far new r es s t → Writes es s []
evict_unwritten far new r es s t rule x = elim rule.answered [
  | inl few ↦ (x.left (λ id e. few_spans (most_loose far.spans rule.loose) r id few.reply e)).nothing
  | inr (inl few) ↦
      (x.left (λ id e. few_nodes (room_count far.nodes far.members) r id few.reply e)).nothing
  | inr (inr both) ↦ (x.evicted (record { n = far.counts.sets }) both.reply).nothing
]

-- ---- no refusal is a batch or a set
leaving_batch : (a b : SetId) (r : Reply) → r ≡ answer.Leaving a → r ≡ answer.Batch b → ⊥
leaving_batch a b r e f = cc

spans_batch : (n : ℕ) (b : SetId) (r : Reply) → r ≡ answer.NoSpans n → r ≡ answer.Batch b → ⊥
spans_batch n b r e f = cc

nodes_batch : (n : ℕ) (b : SetId) (r : Reply) → r ≡ answer.NoNodes n → r ≡ answer.Batch b → ⊥
nodes_batch n b r e f = cc

no_batch_set : (b : SetId) (r : Reply) → r ≡ answer.NoBatch → r ≡ answer.Set b → ⊥
no_batch_set b r e f = cc

short_set : (ps : List ℕ) (b : SetId) (r : Reply) → r ≡ answer.Short ps → r ≡ answer.Set b → ⊥
short_set ps b r e f = cc

begins_unwritten : (far new : FarState) (made : Bool) (so : List (List ℕ) → Type 0) (r : Reply)
    (es : List Access) (s t : Shown) → BeginsBy far new made so r es
    → BeginEffect far new r es s t → Writes es s []
begins_unwritten far new made so r es s t (inl z) x =
    (x.left (λ id e. leaving_batch (record { n = z.batch.set }) id r z.reply e)).nothing
begins_unwritten far new made so r es s t (inr z) x = elim z.answered [
  | inl few ↦ (x.left (λ id e. spans_batch (most_loose far.spans z.loose) id r few.reply e)).nothing
  | inr (inl few) ↦
      (x.left (λ id e. nodes_batch (room_count far.nodes far.members) id r few.reply e)).nothing
  | inr (inr both) ↦ (x.begun (record { n = far.counts.sets }) both.reply).nothing
]

pub begin_unwritten : (far new : FarState) (r : Reply) (es : List Access) (s t : Shown)
    → BeginRule far new r es → BeginEffect far new r es s t → Writes es s []
begin_unwritten far new r es s t rule x =
    begins_unwritten far new true (λ rows. Unit {0}) r es s t rule x

pub gather_unwritten : (far new : FarState) (g : Gathered) (es : List Access) (s t : Shown)
    → GatherRule far new g es → GatherEffect far new g es s t → Writes es s []
gather_unwritten far new g es s t rule x =
    begins_unwritten far new false (HandsOut far g) (gathered_reply g) es s t rule x.did

pub commit_unwritten : (far new : FarState) (r : Reply) (es : List Access) (s t : Shown)
    → CommitRule far new r es → CommitEffect far new r es s t → Writes es s []
commit_unwritten far new r es s t rule x = elim rule.answered [
  | inl none ↦ (x.left (λ id e. no_batch_set id r none.reply e)).nothing
  | inr (inl short) ↦ (x.left (λ id e. short_set _ id r short.reply e)).nothing
  | inr (inr z) ↦ (x.committed z.batch (record { n = z.batch.set }) z.there z.reply).nothing
]

pub abort_unwritten : (far new : FarState) (r : Reply) (es : List Access) (s t : Shown)
    → AbortRule far new r es → AbortEffect far new es s t → Writes es s []
abort_unwritten far new r es s t rule x = elim rule.answered [
  | inl z ↦ (x.left z.none).nothing
  | inr z ↦ (x.aborted z.batch z.there).nothing
]
