use Rattle.std.proofs.Common.{◌<◌, length, ap, sym, subst, ◌∙◌, arith}
use Rattle.std.proofs.lemmas.Result.{on_err_weaker}
use Rattle.cb_node.specs.NodesState.{NodesState, held}
use Rattle.cb_set.specs.SetState.{SetState}
use Rattle.cb_world.specs.FarState.{FarState}
use Rattle.cb_world.specs.Sets.{set_in}
use Rattle.cb_world.specs.contracts.far.Far.{the_view}
use Rattle.cb_rebuild.specs.RebuildStep.{far_given}
use Rattle.cb_rebuild.proofs.WeakSets.{found_set}
use Rattle.cb_rebuild.proofs.restoring.put_again.Goals as goal

pub put_row-requires-clause-room : goal.put_row-requires-clause-room
put_row-requires-clause-room c =
    subst (λ (q : NodesState). held q c.args.shard.node < q.room) (sym c.in_ok-word.ensures.nodes)
    (subst (λ (f : FarState). held f.nodes c.args.shard.node < f.nodes.room) (sym c.far.view_is)
    c.requires.room)

pub returns-clause-error : goal.returns-clause-error
returns-clause-error c =
    let view = the_view c.far.inside in
    let k = length c.unwrap-set.result.now.positions in
    on_err_weaker c.put_row.result (λ e set at. (
      length set.positions,
      omega arith,
      ap (λ (q : NodesState). record view { nodes = q }) (e ∙ c.in_ok-word.ensures.nodes)
          ∙ ap (λ (f : FarState). far_given f k) c.far.view_is
          ∙ ap (λ (d : SetState). far_given c.args.far.now (length d.positions))
          (found_set c.committed.result c.unwrap-set.result _ set c.committed.ensures
          c.unwrap-set.ensures (ap (λ (q : FarState). set_in q.sets c.args.id) c.far.view_is ∙ at)),
    )) c.put_row.ensures.err
