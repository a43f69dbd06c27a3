use Rattle.cb_gf256.specs.Rows.{byte_at}
use Rattle.cb_gf256.specs.Placing.{Placed}
use Rattle.cb_erase.proofs.restoring.put_sums.Given as goal

abbrev pub invariant-loop-j : goal.invariant-loop-j
invariant-loop-j g l = Placed 64 l.at l.targets (byte_at l.fn.sums) l.initial.out l.out l.j
