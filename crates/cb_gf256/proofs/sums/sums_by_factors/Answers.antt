use Rattle.std.proofs.Common.{◌≡◌, ◌+◌, [], length, ap, ◌∙◌, arith}
use Rattle.cb_gf256.specs.Rows.{row_at, rows_at}
use Rattle.cb_gf256.proofs.Summing.{block_sums_none, block_sums_more, shown_block, all_summed}
use Rattle.cb_gf256.proofs.sums.sums_by_factors.Goals as goal

pub loop-i-init : goal.loop-i-init
loop-i-init g c = block_sums_none g.row.R c.args.at c.args.factors.now (rows_at c.args.rows.now c.args.sources.now)

pub loop-i-preserved : goal.loop-i-preserved
loop-i-preserved g c =
    let rows = c.args.rows.now in
    let sources = c.args.sources.now in
    let i = c.loop-i.i in
    block_sums_more g.row.R i c.args.at c.args.factors.now (rows_at rows sources) c.loop-i.sums c.with_products-sums.result c.block_at-block.result
    c.loop-i.invariant
    (shown_block rows sources i c.args.at c.row.result.now c.block_at-block.result c.loop-i-test.true (c.row.ensures.value ∙ ap (row_at rows) c.from.ensures) c.block_at-block.ensures)
    c.with_products-sums.ensures.count c.with_products-sums.ensures.lanes

pub returns : goal.returns
returns g c j h =
    let factors = row_at c.args.factors.now j in
    let sums = c.loop-i.invariant.lanes j h in
    let all : length factors ≡ c.loop-i.i = omega (arith, c.requires.width j [] (omega (arith, c.requires.height))) in
    record {
      count = sums.count;
      each = λ l q. sums.each l q ∙ all_summed c.loop-i.i factors (rows_at c.args.rows.now c.args.sources.now) (c.args.at + l) all;
    }
