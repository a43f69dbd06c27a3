use Rattle.std.proofs.Common.{◌<◌, IfNone, IfSome, Option, length, refl, sym, subst, arith, inl}
use Rattle.cb_member.specs.declared.names.NodeId.{NodeId}
use Rattle.cb_node.specs.NodesState.{held}
use Rattle.cb_set.specs.Nodes.{other_shards}
use Rattle.cb_world.specs.Choices.{IsLeastNode, MayPut}
use Rattle.cb_world.proofs.Laws.{fits_on_least}
use Rattle.cb_rebuild.proofs.rebuilding.restore.Goals as goal

pub returns-in_default-clause-step : goal.returns-in_default-clause-step
returns-in_default-clause-step c set first =
    let far = c.args.far.now in let p = c.lost_position-position.result in
    inl (record {
      position = p;
      lost = c.lost_position-position.ensures.least set first.there;
      none = subst (λ (o : Option NodeId). IfNone o ((n : NodeId)
          → ¬ (MayPut far.nodes far.members (other_shards set.shards p) n)))
          c.in_default.is (c.in_ok-node.ensures.none set first.there);
      reply = refl;
      same = refl;
    })

pub next_shard-shard-requires : goal.next_shard-shard-requires
next_shard-shard-requires c =
    let far = c.args.far.now in let p = c.lost_position-position.result in
    let first = c.requires.first in
    let x = subst (λ (o : Option NodeId). IfSome o
    (IsLeastNode far.nodes far.members (other_shards first.0.shards p)))
    c.in-Some.is (c.in_ok-node.ensures.least first.0 first.1.there) in
    let w = x.may.within in let n = c.requires.sound.1.rows.counted in omega (arith, w, n)

pub put_again-requires-clause-within : goal.put_again-requires-clause-within
put_again-requires-clause-within c =
    let far = c.args.far.now in let p = c.lost_position-position.result in
    let first = c.requires.first in
    let x = subst (λ (o : Option NodeId). IfSome o
    (IsLeastNode far.nodes far.members (other_shards first.0.shards p)))
    c.in-Some.is (c.in_ok-node.ensures.least first.0 first.1.there) in
    subst (λ (n : NodeId). n.n < length far.nodes.nodes) (sym c.next_shard-shard.ensures.node)
    x.may.within

pub put_again-requires-clause-room : goal.put_again-requires-clause-room
put_again-requires-clause-room c =
    let far = c.args.far.now in let p = c.lost_position-position.result in
    let first = c.requires.first in
    let x = subst (λ (o : Option NodeId). IfSome o
    (IsLeastNode far.nodes far.members (other_shards first.0.shards p)))
    c.in-Some.is (c.in_ok-node.ensures.least first.0 first.1.there) in
    subst (λ (n : NodeId). held far.nodes n < far.nodes.room) (sym c.next_shard-shard.ensures.node)
    (fits_on_least far (other_shards first.0.shards p) c.in-Some.node x)
