use Rattle.std.proofs.Common.{◌≡◌}
use Rattle.cb_gf256.specs.Rows.{row_at, rows_at}
use Rattle.cb_gf256.proofs.Summing.{sum_of_first}
use Rattle.cb_gf256.proofs.sums.sum_at.Given as goal

abbrev pub invariant-loop-i : goal.invariant-loop-i
invariant-loop-i l = l.sum ≡ sum_of_first l.i (row_at l.factors l.j) (rows_at l.rows l.sources) l.column
