use Rattle.cb_scrub.specs.Wrong.{AreZero}
use Rattle.cb_scrub.proofs.testing.columns_are_zero.Given as goal

abbrev pub invariant-loop-column : goal.invariant-loop-column
invariant-loop-column l = AreZero l.r l.rows 0 l.column
