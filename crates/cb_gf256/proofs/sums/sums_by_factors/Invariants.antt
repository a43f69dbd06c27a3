use Rattle.cb_gf256.specs.Rows.{rows_at}
use Rattle.cb_gf256.proofs.Summing.{BlockSums}
use Rattle.cb_gf256.proofs.sums.sums_by_factors.Given as goal

abbrev pub invariant-loop-i : goal.invariant-loop-i
invariant-loop-i g l = BlockSums g.row.R l.i l.at l.factors (rows_at l.rows l.sources) l.sums
