use Rattle.std.proofs.Common.{◌*◌}
use Rattle.cb_scrub.specs.Wrong.{AreZero}
use Rattle.cb_scrub.proofs.testing.blocks_are_zero.Given as goal

abbrev pub invariant-loop-block : goal.invariant-loop-block
invariant-loop-block g l = AreZero g.row.R l.rows 0 (l.block * 64)
