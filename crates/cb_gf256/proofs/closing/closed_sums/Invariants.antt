use Rattle.cb_gf256.specs.Rows.{rows_at}
use Rattle.cb_gf256.specs.Lanes.{HasLanes}
use Rattle.std.proofs.Common.{◌+◌}
use Rattle.cb_gf256.proofs.Summing.{BlockSums}
use Rattle.cb_gf256.proofs.Closings.{plain_sum}
use Rattle.cb_gf256.proofs.closing.closed_sums.Given as goal

abbrev pub invariant-loop-i : goal.invariant-loop-i
invariant-loop-i g l =
    BlockSums g.row.M l.i l.at l.factors (rows_at l.rows l.sources) l.sums
    × HasLanes l.plain (λ x. plain_sum l.i (rows_at l.rows l.sources) (l.at + x))
