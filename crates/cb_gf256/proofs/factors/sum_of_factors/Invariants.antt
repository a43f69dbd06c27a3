use Rattle.std.proofs.Common.{◌≡◌}
use Rattle.cb_gf256.specs.Sum.{sum_over}
use Rattle.cb_gf256.specs.Rows.{byte_at}
use Rattle.cb_gf256.proofs.factors.sum_of_factors.Given as goal

abbrev pub invariant-loop-j : goal.invariant-loop-j
invariant-loop-j l = l.sum ≡ sum_over l.j (λ m. byte_at l.products m l.i)
