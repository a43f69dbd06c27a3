use Rattle.std.proofs.Common.{◌+◌}
use Rattle.cb_gf256.specs.Lanes.{HasLanes}
use Rattle.cb_code.proofs.Horner.{sum_of_last}
use Rattle.cb_code.proofs.syndromes.block_syndrome.Given as goal

abbrev pub invariant-loop-i : goal.invariant-loop-i
invariant-loop-i l = HasLanes l.sum (λ x. sum_of_last l.i l.factor l.rows (l.at + x))
