use Rattle.cb_scrub.specs.Wrong.{AreZero}
use Rattle.cb_scrub.proofs.finding.first_wrong_from.Given as goal

abbrev pub invariant-loop-column : goal.invariant-loop-column
invariant-loop-column l = AreZero l.r l.rows l.from l.column
