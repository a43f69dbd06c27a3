use Rattle.cb_scrub.proofs.MendingLaws.{Mending}
use Rattle.cb_scrub.proofs.mending.mend.Given as goal

abbrev pub invariant-loop-column : goal.invariant-loop-column
invariant-loop-column l = Mending l.len l.position l.column l.initial.rows l.rows
