use Rattle.std.proofs.Common.{◌+◌}
use Rattle.cb_gf256.specs.Block.{cut_rows}
use Rattle.cb_gf256.specs.Rows.{rows_at, byte_at}
use Rattle.cb_gf256.specs.Placing.{Placed}
use Rattle.cb_gf256.proofs.recovering.copy_column.Given as goal

abbrev pub invariant-loop-i : goal.invariant-loop-i
invariant-loop-i l =
    Placed 1 l.column l.sources (λ i x. byte_at (rows_at l.rows l.sources) i (l.column + x)) (cut_rows l.count l.len l.initial.out) (cut_rows l.count l.len l.out) l.i
