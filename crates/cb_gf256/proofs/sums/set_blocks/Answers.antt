use Rattle.std.proofs.Common.{◌+◌, ◌-◌, ◌*◌, ◌/◌, sym, arith}
use Rattle.cb_gf256.specs.Block.{cut_rows}
use Rattle.cb_gf256.specs.Rows.{row_at, rows_at, byte_at}
use Rattle.cb_gf256.specs.Combination.{combination}
use Rattle.cb_gf256.proofs.Placing.{combined_before, placed_same}
use Rattle.cb_gf256.proofs.sums.set_blocks.Goals as goal

pub loop-block-preserved : goal.loop-block-preserved
loop-block-preserved g c =
    let shown = rows_at c.args.rows.now c.args.sources.now in
    let cut = cut_rows c.args.count c.args.len in
    let at = (c.loop-block.block - 1) * 64 in
    combined_before c.args.factors.now shown c.args.targets.now (cut c.args.out.now) (cut c.loop-block.out) (cut c.put_sums.new.out) 64 at g.row.R (c.loop-block.block * 64) (c.args.len / 64 * 64) (sym c.requires.targets) (omega arith)
    c.loop-block.invariant
    (placed_same 64 at g.row.R c.args.targets.now (byte_at c.block_sums-sums.result) (λ j l. combination (row_at c.args.factors.now j) shown (at + l)) (cut c.loop-block.out) (cut c.put_sums.new.out)
    (λ j l h k. (c.block_sums-sums.ensures j h).each l k) c.put_sums.ensures)
