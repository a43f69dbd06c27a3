use Rattle.std.proofs.Common.{◌+◌, List, ◌++◌, ◌∷◌, [], drop, None, sym, ap, ◌∙◌, arith}
use Rattle.cb_member.specs.declared.names.Shard.{Shard}
use Rattle.cb_compact.specs.MergeStep.{merged_shards}
use Rattle.cb_compact.proofs.Merged.{shards_all, shards_more}
use Rattle.cb_compact.proofs.merging.shards_of.Goals as goal

abbrev none_here : Shard
none_here = record { node = record { n = 0 }; incarnation = 0; key = 0 }

pub loop-p-init : goal.loop-p-init
loop-p-init c = ap (λ (l : List Shard). l ++ merged_shards c.args.steps.now c.args.olds.now)
    c.in_ok-shards.ensures.items

pub loop-p-preserved : goal.loop-p-preserved
loop-p-preserved c =
    let steps = c.args.steps.now in let olds = c.args.olds.now in let p = c.loop-p.p in
    ap (λ (l : List Shard). l ++ merged_shards (drop (p + 1) steps) (drop (p + 1) olds))
    (c.in_ok-push.ensures.items
    ∙ ap (λ (x : Shard). c.loop-p.shards.items ++ x ∷ []) c.unwrap_or.ensures)
    ∙ shards_more c.loop-p.shards.items steps olds p None none_here c.loop-p-test.true
    (let l = c.loop-p-test.true in let e = c.requires in omega (arith, l, e)) ∙ c.loop-p.invariant

pub returns : goal.returns
returns c =
    sym (shards_all c.loop-p.shards.items c.args.steps.now c.args.olds.now c.loop-p.p
    c.loop-p-test.false) ∙ c.loop-p.invariant
