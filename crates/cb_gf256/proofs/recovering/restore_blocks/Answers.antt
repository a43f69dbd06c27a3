use Rattle.std.proofs.Common.{◌+◌, ◌-◌, ◌*◌, ◌/◌, sym, arith}
use Rattle.cb_gf256.specs.Block.{cut_rows}
use Rattle.cb_gf256.specs.Rows.{row_at, rows_at, byte_at}
use Rattle.cb_gf256.specs.Combination.{combination}
use Rattle.cb_gf256.proofs.Placing.{restored_before, placed_same}
use Rattle.cb_gf256.proofs.recovering.restore_blocks.Goals as goal

pub loop-block-preserved : goal.loop-block-preserved
loop-block-preserved g c =
    let shown = rows_at c.args.rows.now c.args.sources.now in
    let cut = cut_rows c.args.count c.args.len in
    let at = (c.loop-block.block - 1) * 64 in
    let copied = cut c.kept_block_sums-sums.new.out in
    let made = cut c.put_sums.new.out in
    restored_before c.args.factors.now shown c.args.targets.now c.args.sources.now (cut c.args.out.now) (cut c.loop-block.out) copied made 64 at g.row.R (c.loop-block.block * 64) (c.args.len / 64 * 64) (sym c.requires.targets) (omega arith)
    c.requires.apart c.loop-block.invariant c.kept_block_sums-sums.ensures.kept
    (placed_same 64 at g.row.R c.args.targets.now (byte_at c.kept_block_sums-sums.result) (λ j l. combination (row_at c.args.factors.now j) shown (at + l)) copied made
    (λ j l h k. (c.kept_block_sums-sums.ensures.lanes j h).each l k) c.put_sums.ensures)
