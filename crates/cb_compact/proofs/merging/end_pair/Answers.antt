use Rattle.std.proofs.Common.{◌≡◌, length, sym, ap, subst, ◌∙◌}
use Rattle.cb_node.specs.NodesState.{NodesState}
use Rattle.cb_world.specs.FarState.{FarState}
use Rattle.cb_world.specs.Joining.{JoiningState}
use Rattle.cb_world.specs.Stored.{AreThere}
use Rattle.cb_compact.proofs.Ready.{pair_same}
use Rattle.cb_compact.proofs.merging.end_pair.Goals as goal

pub drop_pair_rows-requires-clause-a_there : goal.drop_pair_rows-requires-clause-a_there
drop_pair_rows-requires-clause-a_there c =
    let x = c.requires.there in
    let same : x.0 ≡ c.in-Some.pair = pair_same x.0 c.in-Some.pair
    (sym x.1 ∙ ap (λ (f : FarState). f.joining) (sym c.far.view_is) ∙ sym c.take.ensures.value
    ∙ c.in-Some.is) in
    subst (λ (q : JoiningState). AreThere c.far.inside.nodes q.shards_a) same
    (subst (λ (n : NodesState). AreThere n x.0.shards_a)
    (ap (λ (f : FarState). f.nodes) (sym c.far.view_is)) x.2)

pub drop_pair_rows-requires-clause-b_there : goal.drop_pair_rows-requires-clause-b_there
drop_pair_rows-requires-clause-b_there c =
    let x = c.requires.there in
    let same : x.0 ≡ c.in-Some.pair = pair_same x.0 c.in-Some.pair
    (sym x.1 ∙ ap (λ (f : FarState). f.joining) (sym c.far.view_is) ∙ sym c.take.ensures.value
    ∙ c.in-Some.is) in
    subst (λ (q : JoiningState). AreThere c.far.inside.nodes q.shards_b) same
    (subst (λ (n : NodesState). AreThere n x.0.shards_b)
    (ap (λ (f : FarState). f.nodes) (sym c.far.view_is)) x.3)

pub drop_pair_rows-requires-clause-counts : goal.drop_pair_rows-requires-clause-counts
drop_pair_rows-requires-clause-counts c =
    let x = c.requires.there in
    let same : x.0 ≡ c.in-Some.pair = pair_same x.0 c.in-Some.pair
    (sym x.1 ∙ ap (λ (f : FarState). f.joining) (sym c.far.view_is) ∙ sym c.take.ensures.value
    ∙ c.in-Some.is) in
    subst (λ (q : JoiningState). length q.steps ≡ length q.shards_a) same x.4
