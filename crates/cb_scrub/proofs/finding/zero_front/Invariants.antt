use Rattle.std.proofs.Common.{◌*◌}
use Rattle.cb_scrub.specs.Wrong.{AreZero}
use Rattle.cb_scrub.proofs.finding.zero_front.Given as goal

abbrev pub invariant-loop-block : goal.invariant-loop-block
invariant-loop-block l = AreZero l.r l.rows 0 (l.block * 64)
