use Rattle.std.proofs.Common.{◌+◌}
use Rattle.cb_gf256.specs.Block.{cut_rows}
use Rattle.cb_gf256.specs.Rows.{row_at, rows_at}
use Rattle.cb_gf256.specs.Combination.{combination}
use Rattle.cb_gf256.specs.Placing.{Placed}
use Rattle.cb_gf256.proofs.sums.set_column.Given as goal

abbrev pub invariant-loop-j : goal.invariant-loop-j
invariant-loop-j l =
    Placed 1 l.column l.targets (λ j x. combination (row_at l.factors j) (rows_at l.rows l.sources) (l.column + x)) (cut_rows l.count l.len l.initial.out) (cut_rows l.count l.len l.out) l.j
