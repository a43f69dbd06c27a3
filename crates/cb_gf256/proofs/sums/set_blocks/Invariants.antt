use Rattle.std.proofs.Common.{◌*◌, ◌/◌}
use Rattle.cb_gf256.specs.Block.{cut_rows}
use Rattle.cb_gf256.specs.Rows.{rows_at}
use Rattle.cb_gf256.specs.Placing.{Combined}
use Rattle.cb_gf256.proofs.sums.set_blocks.Given as goal

abbrev pub invariant-loop-block : goal.invariant-loop-block
invariant-loop-block g l =
    Combined l.factors (rows_at l.rows l.sources) l.targets (cut_rows l.count l.len l.initial.out) (cut_rows l.count l.len l.out) (l.block * 64) (l.len / 64 * 64)
