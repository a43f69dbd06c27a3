use Rattle.std.proofs.Common.{◌+◌}
use Rattle.cb_gf256.specs.Block.{cut_rows}
use Rattle.cb_gf256.specs.Rows.{rows_at, byte_at}
use Rattle.cb_gf256.specs.Placing.{Placed}
use Rattle.cb_gf256.proofs.Summing.{BlockSums}
use Rattle.cb_gf256.proofs.recovering.kept_block_sums.Given as goal

abbrev pub invariant-loop-i : goal.invariant-loop-i
invariant-loop-i g l =
    BlockSums g.row.R l.i l.at l.factors (rows_at l.rows l.sources) l.sums
    × Placed 64 l.at l.sources (λ i x. byte_at (rows_at l.rows l.sources) i (l.at + x)) (cut_rows l.count l.len l.initial.out) (cut_rows l.count l.len l.out) l.i
