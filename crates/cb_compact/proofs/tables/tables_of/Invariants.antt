use Rattle.cb_compact.specs.Tables.{AreTables}
use Rattle.cb_compact.proofs.tables.tables_of.Given as goal

abbrev pub invariant-loop-candidate : goal.invariant-loop-candidate
invariant-loop-candidate l = AreTables l.found l.tables.items
