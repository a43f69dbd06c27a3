use Rattle.cb_local.proofs.Patching.{ArePatchedTo}
use Rattle.cb_local.proofs.running.add_deltas.Given as goal

abbrev pub invariant-loop-i : goal.invariant-loop-i
invariant-loop-i l = ArePatchedTo l.table l.order l.parities l.change l.i
