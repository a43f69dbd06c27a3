use Rattle.std.proofs.Common.{◌+◌}
use Rattle.cb_scrub.specs.Wrong.{AreZero}
use Rattle.cb_scrub.proofs.testing.block_is_zero.Given as goal

abbrev pub invariant-loop-j : goal.invariant-loop-j
invariant-loop-j g l = AreZero l.j l.rows l.at (l.at + 64)
