use Rattle.cb_erase.proofs.Tables.{Units}
use Rattle.cb_erase.proofs.weighing.unit_rows.Given as goal

abbrev pub invariant-loop-i : goal.invariant-loop-i
invariant-loop-i l = Units l.present l.table l.i
