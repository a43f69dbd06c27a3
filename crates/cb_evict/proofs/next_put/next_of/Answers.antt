use Rattle.std.proofs.lemmas.Result.{IfOk-from_err}
use Rattle.std.proofs.Common.{◌≡◌, ◌≤◌, ℕ, List, Option, Some, length, ap, sym, ◌∙◌, subst}
use Rattle.cb_member.specs.declared.names.Shard.{Shard}
use Rattle.cb_member.specs.Membership.{Membership}
use Rattle.cb_world.specs.FarState.{FarState}
use Rattle.cb_world.specs.Leaving.{LeavingState}
use Rattle.cb_evict.specs.Waiting.{PutAtMembers, least_waiting}
use Rattle.cb_evict.proofs.Composed.{any_err}
use Rattle.cb_evict.proofs.ShipParts.{put_at_members, few_positions}
use Rattle.cb_evict.proofs.next_put.next_of.Goals as goal

pub least_waiting-requires-clause-nodes : goal.least_waiting-requires-clause-nodes
least_waiting-requires-clause-nodes c =
    let far = c.args.far.now in let batch = c.args.batch.now in
    subst (λ (m : Membership). PutAtMembers m c.deref.result.now)
    (sym (ap (λ (q : FarState). q.members) c.far.view_is))
    (subst (λ (l : List (Option Shard)). PutAtMembers far.members l)
    (sym (c.deref.ensures.value ∙ ap (λ (b : LeavingState). b.shards) c.batch.view_is))
    (put_at_members far batch c.requires.sound.1.away.sound.rows c.requires.there))

pub least_waiting-requires-clause-few : goal.least_waiting-requires-clause-few
least_waiting-requires-clause-few c =
    subst (λ (l : List (Option Shard)). length l ≤ 20)
    (sym (c.deref.ensures.value ∙ ap (λ (b : LeavingState). b.shards) c.batch.view_is))
    (few_positions c.requires.sound.0 c.args.far.now c.args.batch.now c.requires.sound.1
    c.requires.there)

pub least_node-requires-clause-few : goal.least_node-requires-clause-few
least_node-requires-clause-few c = subst (λ (q : FarState). length q.nodes.nodes ≤ 256) (sym c.far.view_is) c.requires.few

pub returns-in_err-others : goal.returns-in_err-others
returns-in_err-others c =
    let waits : (p : ℕ) × (least_waiting c.args.far.now.members c.args.batch.now.shards ≡ Some p) = (
      c.in-Some.position,
      ap (λ (q : FarState). least_waiting q.members c.args.batch.now.shards) (sym c.far.view_is)
          ∙ ap (λ (l : List (Option Shard)). least_waiting c.far.inside.members l)
          (sym (c.deref.ensures.value ∙ ap (λ (b : LeavingState). b.shards) c.batch.view_is))
          ∙ sym c.least_waiting.ensures.least ∙ c.in-Some.is,
    ) in
    record { next = IfOk-from_err _ _ c.from_residual.ensures.0; waits = any_err _ _ waits }
