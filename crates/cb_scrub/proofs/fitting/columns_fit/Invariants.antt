use Rattle.cb_scrub.specs.Fitting.{FitsColumns}
use Rattle.cb_scrub.proofs.fitting.columns_fit.Given as goal

abbrev pub invariant-loop-column : goal.invariant-loop-column
invariant-loop-column l = FitsColumns l.r l.rows l.position l.from l.column
