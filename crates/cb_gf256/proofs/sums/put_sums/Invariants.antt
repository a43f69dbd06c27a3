use Rattle.cb_gf256.specs.Block.{cut_rows}
use Rattle.cb_gf256.specs.Rows.{byte_at}
use Rattle.cb_gf256.specs.Placing.{Placed}
use Rattle.cb_gf256.proofs.sums.put_sums.Given as goal

abbrev pub invariant-loop-j : goal.invariant-loop-j
invariant-loop-j g l = Placed 64 l.at l.targets (byte_at l.fn.sums) (cut_rows l.count l.len l.initial.out) (cut_rows l.count l.len l.out) l.j
