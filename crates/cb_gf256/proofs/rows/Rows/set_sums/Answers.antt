use Rattle.std.proofs.Common.{length, sym, ap, subst, arith, ◌∙◌}
use Rattle.std.specs.Vec.{with_items}
use Rattle.std.proofs.lemmas.List.{with_items_is}
use Rattle.cb_gf256.specs.Rows.{row_at, rows_at, HaveLength}
use Rattle.cb_gf256.specs.Combination.{AreCombinations}
use Rattle.cb_gf256.proofs.BlockLemmas.{lent, cut_rows-same, length-cut_rows, HaveLength-cut_rows}
use Rattle.cb_gf256.proofs.rows.Rows.set_sums.Goals as goal

pub set_sums_in-requires-clause-size : goal.set_sums_in-requires-clause-size
set_sums_in-requires-clause-size c =
    let r = c.self.inside in
    let m = length (row_at c.args.rows.now 0) in
    ap length c.deref_mut.ensures.value ∙ (cut_rows-same r.count r.len m r.block.items c.self.invariant (subst (HaveLength m) (sym c.self.view_is) c.requires.lengths)).0

pub set_sums_in-requires-clause-below : goal.set_sums_in-requires-clause-below
set_sums_in-requires-clause-below c k d h =
    let r = c.self.inside in
    omega (arith, c.requires.below k d h, ap length c.self.view_is, length-cut_rows r.count r.len r.block.items)

pub returns-clause-count : goal.returns-clause-count
returns-clause-count c =
    let r = c.self.inside in
    length-cut_rows r.count r.len (with_items r.block c.set_sums_in.new.block).items ∙ sym (length-cut_rows r.count r.len r.block.items) ∙ ap length c.self.view_is

pub returns-clause-lengths : goal.returns-clause-lengths
returns-clause-lengths c =
    let r = c.self.inside in
    let m = length (row_at c.args.rows.now 0) in
    let new = c.set_sums_in.new.block in
    let back = lent r.count r.len m r.block.items c.deref_mut.result.now new (with_items r.block new).items c.args.self.now c.self.invariant c.self.view_is c.requires.lengths c.deref_mut.ensures.value c.set_sums_in.auto.block
    (λ e. with_items_is r.block new (e ∙ sym r.block.ok.0)) in
    subst (HaveLength m) back.is (HaveLength-cut_rows r.count m new back.whole)

pub returns-clause-sums : goal.returns-clause-sums
returns-clause-sums c =
    let r = c.self.inside in
    let new = c.set_sums_in.new.block in
    let back = lent r.count r.len (length (row_at c.args.rows.now 0)) r.block.items c.deref_mut.result.now new (with_items r.block new).items c.args.self.now c.self.invariant c.self.view_is c.requires.lengths c.deref_mut.ensures.value
    c.set_sums_in.auto.block (λ e. with_items_is r.block new (e ∙ sym r.block.ok.0)) in
    subst (λ rows. AreCombinations c.args.factors.now (rows_at c.args.rows.now c.args.sources.now) (rows_at rows c.args.targets.now)) back.is c.set_sums_in.ensures.sums

pub returns-clause-others : goal.returns-clause-others
returns-clause-others c i apart =
    let r = c.self.inside in
    let new = c.set_sums_in.new.block in
    let back = lent r.count r.len (length (row_at c.args.rows.now 0)) r.block.items c.deref_mut.result.now new (with_items r.block new).items c.args.self.now c.self.invariant c.self.view_is c.requires.lengths c.deref_mut.ensures.value
    c.set_sums_in.auto.block (λ e. with_items_is r.block new (e ∙ sym r.block.ok.0)) in
    ap (λ rows. row_at rows i) (sym back.is) ∙ c.set_sums_in.ensures.others i apart ∙ ap (λ rows. row_at rows i) back.was
