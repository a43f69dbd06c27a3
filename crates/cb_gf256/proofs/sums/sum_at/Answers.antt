use Rattle.std.proofs.Common.{[], get_or, sym, ap, ap₂, ◌∙◌, arith, add-one}
use Rattle.cb_gf256.specs.Sum.{◌⊕◌}
use Rattle.cb_gf256.specs.Product.{◌⊗◌}
use Rattle.cb_gf256.specs.Rows.{row_at, rows_at}
use Rattle.cb_gf256.proofs.Summing.{sum_of_first, row_at-rows_at, all_summed}
use Rattle.cb_gf256.proofs.sums.sum_at.Goals as goal

pub loop-i-preserved : goal.loop-i-preserved
loop-i-preserved c =
    let rows = c.args.rows.now in
    let sources = c.args.sources.now in
    let factors = row_at c.args.factors.now c.args.j in
    let i = c.loop-i.i in
    let here = c.row.ensures.value ∙ ap (row_at rows) c.from.ensures ∙ sym (row_at-rows_at rows sources i c.loop-i-test.true) in
    ap₂ ◌⊕◌ c.loop-i.invariant
    (c.times-sum.ensures ∙ ap₂ ◌⊗◌ c.product.ensures (ap (λ row. get_or row c.args.column 0) here))
    ∙ ap (λ n. sum_of_first n factors (rows_at rows sources) c.args.column) (sym (add-one i))

pub returns : goal.returns
returns c =
    let factors = row_at c.args.factors.now c.args.j in
    c.loop-i.invariant
    ∙ all_summed c.loop-i.i factors (rows_at c.args.rows.now c.args.sources.now) c.args.column (omega (arith, c.requires.width c.args.j [] c.requires.height))
