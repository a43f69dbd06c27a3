use Rattle.std.proofs.Common.{◌≡◌, ℕ, All, List, Option, Some, refl, sym, ap, ◌∙◌, subst}
use Rattle.cb_member.specs.declared.names.Shard.{Shard}
use Rattle.cb_span.specs.Contents.{Contents}
use Rattle.cb_world.specs.FarState.{FarState, span_in}
use Rattle.cb_world.specs.Leaving.{LeavingState}
use Rattle.cb_world.specs.LocalSound.{AreFrames}
use Rattle.cb_world.proofs.Laws.{frames_as}
use Rattle.cb_evict.specs.Committing.{AreAllPut}
use Rattle.cb_evict.proofs.committing.keep_batch.Goals as goal

pub commit_set-requires-clause-whole : goal.commit_set-requires-clause-whole
commit_set-requires-clause-whole c =
    subst (λ (l : List (Option Shard)). AreAllPut l)
    (sym (c.deref.ensures.value ∙ ap (λ (b : LeavingState). b.shards) c.batch.view_is))
    c.requires.whole

pub close_spans-requires-clause-there : goal.close_spans-requires-clause-there
close_spans-requires-clause-there c =
    subst (λ (l : List ℕ). All (λ f. (span : Contents) × (span_in c.far.inside.spans f ≡ Some span)) l)
    (sym (c.deref-2.ensures.value ∙ ap (λ (b : LeavingState). b.frames) c.batch.view_is))
    (subst (λ (x : FarState). All (λ f. (span : Contents) × (span_in x.spans f ≡ Some span)) c.args.batch.now.frames)
    (sym c.far.view_is) c.requires.there)

pub close_spans-requires-clause-owned : goal.close_spans-requires-clause-owned
close_spans-requires-clause-owned c =
    let owned = subst AreFrames (sym c.far.view_is) c.requires.owned in
    frames_as _ _ refl refl owned
