use Rattle.std.proofs.Common.{◌-◌, length}
use Rattle.cb_scrub.proofs.ByRows.{AreSumsFrom}
use Rattle.cb_scrub.proofs.testing.block_syndromes.Given as goal

abbrev pub invariant-loop-i : goal.invariant-loop-i
invariant-loop-i g l = AreSumsFrom g.row.R (length l.rows - l.i) l.at l.rows l.sums
