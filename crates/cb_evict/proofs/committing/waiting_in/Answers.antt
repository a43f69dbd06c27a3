use Rattle.std.proofs.Common.{◌≡◌, ◌≤◌, List, Option, Some, length, sym, ap, ◌∙◌, subst}
use Rattle.cb_member.specs.declared.names.Shard.{Shard}
use Rattle.cb_world.specs.FarState.{FarState}
use Rattle.cb_world.specs.Leaving.{LeavingState}
use Rattle.cb_evict.specs.Waiting.{PutAtMembers}
use Rattle.cb_evict.proofs.committing.waiting_in.Goals as goal

pub waiting_positions-requires-clause-nodes : goal.waiting_positions-requires-clause-nodes
waiting_positions-requires-clause-nodes c =
    let there : c.args.far.now.leaving ≡ Some c.in-Some.batch =
    sym (ap (λ (f : FarState). f.leaving) c.far.view_is) ∙ c.in-Some.is in
    subst (λ (l : List (Option Shard)). PutAtMembers c.far.inside.members l)
    (sym (c.deref.ensures.value ∙ ap (λ (b : LeavingState). b.shards) c.batch.view_is))
    (subst (λ (f : FarState). PutAtMembers f.members c.in-Some.batch.shards) (sym c.far.view_is)
    (c.requires.put c.in-Some.batch there).0)

pub waiting_positions-requires-clause-few : goal.waiting_positions-requires-clause-few
waiting_positions-requires-clause-few c =
    let there : c.args.far.now.leaving ≡ Some c.in-Some.batch =
    sym (ap (λ (f : FarState). f.leaving) c.far.view_is) ∙ c.in-Some.is in
    subst (λ (l : List (Option Shard)). length l ≤ 20)
    (sym (c.deref.ensures.value ∙ ap (λ (b : LeavingState). b.shards) c.batch.view_is))
    (c.requires.put c.in-Some.batch there).1
