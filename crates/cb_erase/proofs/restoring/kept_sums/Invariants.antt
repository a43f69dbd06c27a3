use Rattle.std.proofs.Common.{◌+◌}
use Rattle.cb_gf256.specs.Rows.{rows_at, byte_at}
use Rattle.cb_gf256.specs.Placing.{Placed}
use Rattle.cb_erase.proofs.BlockSums.{AreSums}
use Rattle.cb_erase.proofs.restoring.kept_sums.Given as goal

abbrev pub invariant-loop-i : goal.invariant-loop-i
invariant-loop-i g l =
    AreSums g.row.M l.i l.at l.products (rows_at l.rows l.sources) l.sums l.plain
    × Placed 64 l.at l.sources (λ i x. byte_at (rows_at l.rows l.sources) i (l.at + x)) l.initial.out l.out l.i
