use Rattle.std.proofs.Common.{◌≡◌, ℕ, List, length, sym, ap, subst, arith, ◌∙◌}
use Rattle.std.specs.Vec.{with_items}
use Rattle.std.proofs.lemmas.List.{with_items_is}
use Rattle.cb_gf256.specs.Block.{cut_rows}
use Rattle.cb_gf256.specs.Rows.{row_at, rows_at, HaveLength}
use Rattle.cb_gf256.specs.Placing.{Restored}
use Rattle.cb_gf256.proofs.BlockLemmas.{lent, cut_rows-same, length-cut_rows}
use Rattle.cb_gf256.proofs.Placing.{kept_lengths, restored_combinations, restored_kept, source_rows}
use Rattle.cb_gf256.proofs.rows.Rows.restore.Goals as goal

restored_between : {before now was is : List (List ℕ)} (table shown : List (List ℕ)) (targets sources : List ℕ) (len : ℕ) → was ≡ before → is ≡ now → Restored table shown targets sources was is 0 len → Restored table shown targets sources before now 0 len
restored_between {now = now} {was = was} table shown targets sources len d e h =
    subst (λ rows. Restored table shown targets sources rows now 0 len) d (subst (λ rows. Restored table shown targets sources was rows 0 len) e h)

pub restore_whole_blocks-requires-clause-size : goal.restore_whole_blocks-requires-clause-size
restore_whole_blocks-requires-clause-size c =
    let r = c.self.inside in
    let m = c.row_len-len.result in
    let len = source_rows c.args.rows.now c.args.sources.now m c.requires.some c.requires.sources c.row_len-len.ensures.length in
    ap length c.deref_mut.ensures.value
    ∙ (cut_rows-same r.count r.len m r.block.items c.self.invariant (subst (HaveLength m) (sym c.self.view_is) (λ i d k. c.requires.lengths i d k ∙ len.0))).0

pub restore_whole_blocks-requires-clause-below : goal.restore_whole_blocks-requires-clause-below
restore_whole_blocks-requires-clause-below c =
    let r = c.self.inside in
    let count = length-cut_rows r.count r.len r.block.items in
    let view = ap length c.self.view_is in
    (λ k d h. omega (arith, c.requires.below.0 k d h, view, count), λ k d h. omega (arith, c.requires.below.1 k d h, view, count))

pub restore_rest-requires-clause-size : goal.restore_rest-requires-clause-size
restore_rest-requires-clause-size c =
    let r = c.self.inside in
    let m = c.row_len-len.result in
    let len = source_rows c.args.rows.now c.args.sources.now m c.requires.some c.requires.sources c.row_len-len.ensures.length in
    c.restore_whole_blocks.auto.out ∙ ap length c.deref_mut.ensures.value
    ∙ (cut_rows-same r.count r.len m r.block.items c.self.invariant (subst (HaveLength m) (sym c.self.view_is) (λ i d k. c.requires.lengths i d k ∙ len.0))).0

pub restore_rest-requires-clause-below : goal.restore_rest-requires-clause-below
restore_rest-requires-clause-below c =
    let r = c.self.inside in
    let count = length-cut_rows r.count r.len r.block.items in
    let view = ap length c.self.view_is in
    (λ k d h. omega (arith, c.requires.below.0 k d h, view, count), λ k d h. omega (arith, c.requires.below.1 k d h, view, count))

pub returns-clause-count : goal.returns-clause-count
returns-clause-count c =
    let r = c.self.inside in
    let rows = c.args.rows.now in
    let shown = rows_at rows c.args.sources.now in
    let given = c.deref_mut.result.now in
    let new = c.restore_rest.new.out in
    let m = c.row_len-len.result in
    let len = source_rows rows c.args.sources.now m c.requires.some c.requires.sources c.row_len-len.ensures.length in
    let lengths : HaveLength m c.args.self.now = λ i d k. c.requires.lengths i d k ∙ len.0 in
    let back = lent r.count r.len m r.block.items given new (with_items r.block new).items c.args.self.now c.self.invariant c.self.view_is lengths c.deref_mut.ensures.value
    (c.restore_rest.auto.out ∙ c.restore_whole_blocks.auto.out) (λ e. with_items_is r.block new (e ∙ sym r.block.ok.0)) in
    let made = restored_between c.args.factors.now shown c.args.targets.now c.args.sources.now m back.was back.is (c.restore_rest.ensures (cut_rows r.count m given) c.restore_whole_blocks.ensures.blocks) in
    made.count

pub returns-clause-lengths : goal.returns-clause-lengths
returns-clause-lengths c =
    let r = c.self.inside in
    let rows = c.args.rows.now in
    let shown = rows_at rows c.args.sources.now in
    let given = c.deref_mut.result.now in
    let new = c.restore_rest.new.out in
    let m = c.row_len-len.result in
    let len = source_rows rows c.args.sources.now m c.requires.some c.requires.sources c.row_len-len.ensures.length in
    let lengths : HaveLength m c.args.self.now = λ i d k. c.requires.lengths i d k ∙ len.0 in
    let back = lent r.count r.len m r.block.items given new (with_items r.block new).items c.args.self.now c.self.invariant c.self.view_is lengths c.deref_mut.ensures.value
    (c.restore_rest.auto.out ∙ c.restore_whole_blocks.auto.out) (λ e. with_items_is r.block new (e ∙ sym r.block.ok.0)) in
    let made = restored_between c.args.factors.now shown c.args.targets.now c.args.sources.now m back.was back.is (c.restore_rest.ensures (cut_rows r.count m given) c.restore_whole_blocks.ensures.blocks) in
    kept_lengths (length (row_at rows 0)) c.args.self.now _ made.count made.lengths c.requires.lengths

pub returns-clause-sums : goal.returns-clause-sums
returns-clause-sums c =
    let r = c.self.inside in
    let rows = c.args.rows.now in
    let shown = rows_at rows c.args.sources.now in
    let given = c.deref_mut.result.now in
    let new = c.restore_rest.new.out in
    let m = c.row_len-len.result in
    let len = source_rows rows c.args.sources.now m c.requires.some c.requires.sources c.row_len-len.ensures.length in
    let lengths : HaveLength m c.args.self.now = λ i d k. c.requires.lengths i d k ∙ len.0 in
    let back = lent r.count r.len m r.block.items given new (with_items r.block new).items c.args.self.now c.self.invariant c.self.view_is lengths c.deref_mut.ensures.value
    (c.restore_rest.auto.out ∙ c.restore_whole_blocks.auto.out) (λ e. with_items_is r.block new (e ∙ sym r.block.ok.0)) in
    let made = restored_between c.args.factors.now shown c.args.targets.now c.args.sources.now m back.was back.is (c.restore_rest.ensures (cut_rows r.count m given) c.restore_whole_blocks.ensures.blocks) in
    restored_combinations c.args.factors.now shown c.args.targets.now c.args.sources.now c.args.self.now _ m c.requires.height len.1 c.requires.below.1 lengths made

pub returns-clause-kept : goal.returns-clause-kept
returns-clause-kept c =
    let r = c.self.inside in
    let rows = c.args.rows.now in
    let shown = rows_at rows c.args.sources.now in
    let given = c.deref_mut.result.now in
    let new = c.restore_rest.new.out in
    let m = c.row_len-len.result in
    let len = source_rows rows c.args.sources.now m c.requires.some c.requires.sources c.row_len-len.ensures.length in
    let lengths : HaveLength m c.args.self.now = λ i d k. c.requires.lengths i d k ∙ len.0 in
    let back = lent r.count r.len m r.block.items given new (with_items r.block new).items c.args.self.now c.self.invariant c.self.view_is lengths c.deref_mut.ensures.value
    (c.restore_rest.auto.out ∙ c.restore_whole_blocks.auto.out) (λ e. with_items_is r.block new (e ∙ sym r.block.ok.0)) in
    let made = restored_between c.args.factors.now shown c.args.targets.now c.args.sources.now m back.was back.is (c.restore_rest.ensures (cut_rows r.count m given) c.restore_whole_blocks.ensures.blocks) in
    restored_kept c.args.factors.now rows c.args.targets.now c.args.sources.now c.args.self.now _ m c.requires.sources c.requires.below.0 c.row_len-len.ensures.length lengths made

pub returns-clause-others : goal.returns-clause-others
returns-clause-others c i apart other =
    let r = c.self.inside in
    let rows = c.args.rows.now in
    let shown = rows_at rows c.args.sources.now in
    let given = c.deref_mut.result.now in
    let new = c.restore_rest.new.out in
    let m = c.row_len-len.result in
    let len = source_rows rows c.args.sources.now m c.requires.some c.requires.sources c.row_len-len.ensures.length in
    let lengths : HaveLength m c.args.self.now = λ i d k. c.requires.lengths i d k ∙ len.0 in
    let back = lent r.count r.len m r.block.items given new (with_items r.block new).items c.args.self.now c.self.invariant c.self.view_is lengths c.deref_mut.ensures.value
    (c.restore_rest.auto.out ∙ c.restore_whole_blocks.auto.out) (λ e. with_items_is r.block new (e ∙ sym r.block.ok.0)) in
    let made = restored_between c.args.factors.now shown c.args.targets.now c.args.sources.now m back.was back.is (c.restore_rest.ensures (cut_rows r.count m given) c.restore_whole_blocks.ensures.blocks) in
    made.others i (λ j k. apart j 0 k) (λ j k. other j 0 k)
