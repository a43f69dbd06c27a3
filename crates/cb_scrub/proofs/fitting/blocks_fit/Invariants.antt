use Rattle.std.proofs.Common.{◌*◌}
use Rattle.cb_scrub.specs.Fitting.{FitsColumns}
use Rattle.cb_scrub.proofs.fitting.blocks_fit.Given as goal

abbrev pub invariant-loop-block : goal.invariant-loop-block
invariant-loop-block l = FitsColumns l.r l.rows l.position (l.first * 64) (l.block * 64)
