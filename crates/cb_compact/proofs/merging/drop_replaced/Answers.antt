use Rattle.std.proofs.Common.{◌+◌, ◌<◌, [], ◌∷◌, None, get_or, drop, length, ap, ◌∙◌, arith}
use Rattle.std.proofs.lemmas.Option.{slice_get-get_or}
use Rattle.cb_member.specs.declared.names.Shard.{Shard}
use Rattle.cb_node.specs.NodesState.{NodesState}
use Rattle.cb_world.specs.Stored.{all_dropped}
use Rattle.cb_world.proofs.Laws.{drop_count}
use Rattle.cb_compact.specs.MergeStep.{replaced_shards}
use Rattle.cb_compact.proofs.Dropping.{replaced_end, replaced_more}
use Rattle.cb_compact.proofs.merging.drop_replaced.Goals as goal

abbrev none_here : Shard
none_here = record { node = record { n = 0 }; incarnation = 0; key = 0 }

pub drop_replaced_row-requires : goal.drop_replaced_row-requires
drop_replaced_row-requires c =
    let p = c.loop-p.p in let olds = c.args.olds.now in
    let below : p < length olds = let l = c.loop-p-test.true in let n = c.requires.counts in
    omega (arith, l, n) in
    record { there = c.loop-p.invariant.1 p _ (slice_get-get_or olds p none_here below) }

pub loop-p-preserved : goal.loop-p-preserved
loop-p-preserved c =
    let p = c.loop-p.p in let olds = c.args.olds.now in let steps = c.args.steps.now in
    let below : p < length olds = let l = c.loop-p-test.true in let n = c.requires.counts in
    omega (arith, l, n) in (
      ap (λ (n : NodesState). all_dropped n (replaced_shards (drop (p + 1) steps) (drop (p + 1)
          olds)))
          c.drop_replaced_row.ensures
          ∙ replaced_more c.loop-p.nodes steps olds p None none_here c.loop-p-test.true below
          ∙ c.loop-p.invariant.0,
      λ q shard at. let l = c.loop-p.invariant.1 q shard at in
          let n = ap (λ (n : NodesState). length n.nodes) c.drop_replaced_row.ensures in
          let m = drop_count c.loop-p.nodes (replaced_shards (get_or steps p None ∷ []) (get_or
          olds p none_here ∷ [])) in
          omega (arith, l, n, m),
    )

pub returns : goal.returns
returns c =
    replaced_end c.loop-p.nodes c.args.steps.now c.args.olds.now c.loop-p.p c.loop-p-test.false
    ∙ c.loop-p.invariant.0
