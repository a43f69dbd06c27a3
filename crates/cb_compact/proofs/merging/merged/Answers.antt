use Rattle.std.proofs.Common.{◌≡◌, List, Option, length, sym, ap, ap₂, ◌∙◌, arith}
use Rattle.std.proofs.lemmas.List.{length-replicate}
use Rattle.cb_member.specs.declared.names.Shard.{Shard}
use Rattle.cb_set.specs.SetState.{SetState, dead_position}
use Rattle.cb_world.specs.Joining.{JoiningState}
use Rattle.cb_compact.specs.MergeStep.{merged_shards}
use Rattle.cb_compact.proofs.Merged.{all_filled, filled_as, length_shards}
use Rattle.cb_compact.proofs.merging.merged.Goals as goal

pub shards_of-requires : goal.shards_of-requires
shards_of-requires c =
    ap (λ (l : List (Option Shard)). length l)
    (c.deref.ensures.value ∙ ap (λ (q : JoiningState). q.steps) c.pair.view_is)
    ∙ c.requires.steps
    ∙ sym (ap (λ (l : List Shard). length l)
    (c.deref-2.ensures.value ∙ ap (λ (q : JoiningState). q.shards_a) c.pair.view_is))

pub new-requires : goal.new-requires
new-requires c =
    let olds = ap (λ (l : List Shard). length l)
    (c.deref-2.ensures.value ∙ ap (λ (q : JoiningState). q.shards_a) c.pair.view_is) in
    let steps = ap (λ (l : List (Option Shard)). length l)
    (c.deref.ensures.value ∙ ap (λ (q : JoiningState). q.steps) c.pair.view_is) in
    let s = c.requires.steps in let a = c.requires.in_a in
    let same : length c.deref.result.now ≡ length c.deref-2.result.now =
    omega (arith, olds, steps, s) in
    let made = ap (λ (l : List Shard). length l) (c.deref-3.ensures.value ∙ c.in_ok-shards.ensures)
    ∙ length_shards c.deref.result.now c.deref-2.result.now same in
    let k = c.k.ensures.count in let r = c.r.ensures.rest in
    omega (arith, made, olds, a, k, r)

pub fill_positions-requires-clause-here : goal.fill_positions-requires-clause-here
fill_positions-requires-clause-here c =
    ap (λ (q : SetState). length q.positions) c.in_ok-set.ensures.fresh
    ∙ length-replicate c.k.result dead_position ∙ c.k.ensures.count

pub fill_positions-requires-clause-in_b : goal.fill_positions-requires-clause-in_b
fill_positions-requires-clause-in_b c = c.requires.in_b

pub returns-in-Ok : goal.returns-in-Ok
returns-in-Ok c =
    let a = c.args.a.now in let b = c.args.b.now in let pair = c.args.pair.now in
    let fresh = c.in_ok-set.ensures.fresh in
    all_filled c.args.id pair a b c.fill_positions.new.set
    (filled_as c.in_ok-set.set.id c.args.id c.in_ok-set.set.pages a.pages c.in_ok-set.set.shards
    (merged_shards pair.steps pair.shards_a) a b c.fill_positions.new.set (length a.positions)
    c.in-Ok.ensures (ap (λ (q : SetState). q.id) fresh)
    (ap (λ (q : SetState). q.pages) fresh ∙ c.pages.ensures)
    (ap (λ (q : SetState). q.shards) fresh ∙ c.deref-3.ensures.value ∙ c.in_ok-shards.ensures
    ∙ ap₂ merged_shards
    (c.deref.ensures.value ∙ ap (λ (q : JoiningState). q.steps) c.pair.view_is)
    (c.deref-2.ensures.value ∙ ap (λ (q : JoiningState). q.shards_a) c.pair.view_is)))
    c.requires.in_b
