use Rattle.std.proofs.Common.{◌≡◌, List, Option, Some, sym, ap, subst, ◌∙◌}
use Rattle.cb_member.specs.declared.names.Shard.{Shard}
use Rattle.cb_node.specs.NodesState.{NodesState}
use Rattle.cb_world.specs.FarState.{FarState}
use Rattle.cb_world.specs.Joining.{JoiningState}
use Rattle.cb_world.specs.Reserved.{put_shards}
use Rattle.cb_world.specs.Stored.{AreThere}
use Rattle.cb_compact.proofs.compaction.Compaction.give_up.Goals as goal

pair_same : (p q : JoiningState) → Some p ≡ Some q → p ≡ q
pair_same p q e = cc

pub drop_steps-requires : goal.drop_steps-requires
drop_steps-requires c =
    let x = c.requires.there in
    let same : x.0 ≡ c.in-Some.pair = pair_same x.0 c.in-Some.pair
    (sym x.1 ∙ ap (λ (f : FarState). f.joining) (sym c.far.view_is) ∙ sym c.take.ensures.value ∙
    c.in-Some.is) in
    record {
      there = subst (λ (l : List (Option Shard)). AreThere c.far.inside.nodes (put_shards l))
          (sym (c.deref.ensures.value ∙ ap (λ (q : JoiningState). q.steps) c.pair.view_is))
          (subst (λ (q : JoiningState). AreThere c.far.inside.nodes (put_shards q.steps)) same
          (subst (λ (n : NodesState). AreThere n (put_shards x.0.steps))
          (ap (λ (f : FarState). f.nodes) (sym c.far.view_is)) x.2));
    }
