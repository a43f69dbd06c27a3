use Rattle.cb_erase.proofs.Tables.{Filled}
use Rattle.cb_erase.proofs.weighing.weights.Given as goal

abbrev pub invariant-loop-e : goal.invariant-loop-e
invariant-loop-e l = Filled l.present l.lost l.table l.e
