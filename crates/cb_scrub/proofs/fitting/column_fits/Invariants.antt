use Rattle.cb_scrub.specs.Fitting.{FitsAt}
use Rattle.cb_scrub.proofs.fitting.column_fits.Given as goal

abbrev pub invariant-loop-j : goal.invariant-loop-j
invariant-loop-j l = FitsAt l.j l.rows l.position l.column
