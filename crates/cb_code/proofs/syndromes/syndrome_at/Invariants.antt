use Rattle.std.proofs.Common.{◌≡◌, ◌*◌}
use Rattle.cb_gf256.specs.Sum.{sum_over}
use Rattle.cb_gf256.specs.Product.{◌⊗◌}
use Rattle.cb_gf256.specs.Power.{power}
use Rattle.cb_gf256.specs.Rows.{byte_at}
use Rattle.cb_code.proofs.syndromes.syndrome_at.Given as goal

abbrev pub invariant-loop-i : goal.invariant-loop-i
invariant-loop-i l = l.sum ≡ sum_over l.i (λ m. power 2 (m * l.j) ⊗ byte_at l.rows m l.column)
