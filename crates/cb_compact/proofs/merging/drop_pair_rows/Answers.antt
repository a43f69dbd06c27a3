use Rattle.std.proofs.Common.{List, Option, length, sym, ap, ◌∙◌, subst, arith}
use Rattle.std.specs.List.{slice_get}
use Rattle.cb_member.specs.declared.names.Shard.{Shard}
use Rattle.cb_node.specs.NodesState.{NodesState}
use Rattle.cb_world.specs.Joining.{JoiningState}
use Rattle.cb_world.specs.Stored.{AreThere, all_dropped}
use Rattle.cb_world.proofs.Laws.{drop_count}
use Rattle.cb_compact.specs.MergeStep.{replaced_shards}
use Rattle.cb_compact.proofs.merging.drop_pair_rows.Goals as goal

pub drop_rows-requires : goal.drop_rows-requires
drop_rows-requires c = record {
  there = subst (λ (l : List Shard). AreThere c.args.nodes.now l)
      (sym (c.deref.ensures.value ∙ ap (λ (q : JoiningState). q.shards_b) c.pair.view_is))
      c.requires.b_there;
}

pub drop_replaced-requires-clause-there : goal.drop_replaced-requires-clause-there
drop_replaced-requires-clause-there c p shard at =
    let l = c.requires.a_there p shard
    (ap (λ (l : List Shard). slice_get l p)
    (sym (c.deref-3.ensures.value ∙ ap (λ (q : JoiningState). q.shards_a) c.pair.view_is)) ∙ at) in
    let n = ap (λ (n : NodesState). length n.nodes) c.drop_rows.ensures.dropped in
    let m = drop_count c.args.nodes.now c.deref.result.now in
    omega (arith, l, n, m)

pub drop_replaced-requires-clause-counts : goal.drop_replaced-requires-clause-counts
drop_replaced-requires-clause-counts c =
    ap (λ (l : List (Option Shard)). length l)
    (c.deref-2.ensures.value ∙ ap (λ (q : JoiningState). q.steps) c.pair.view_is)
    ∙ c.requires.counts
    ∙ sym (ap (λ (l : List Shard). length l)
    (c.deref-3.ensures.value ∙ ap (λ (q : JoiningState). q.shards_a) c.pair.view_is))

pub returns : goal.returns
returns c =
    let w = c.pair.view_is in
    let d1 = c.deref.ensures.value ∙ ap (λ (q : JoiningState). q.shards_b) w in
    let d2 = c.deref-2.ensures.value ∙ ap (λ (q : JoiningState). q.steps) w in
    let d3 = c.deref-3.ensures.value ∙ ap (λ (q : JoiningState). q.shards_a) w in
    let first = c.drop_rows.ensures.dropped ∙ ap (all_dropped c.args.nodes.now) d1 in
    c.drop_replaced.ensures ∙ (λ i. all_dropped (first i) (replaced_shards (d2 i) (d3 i)))
