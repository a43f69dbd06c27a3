use Rattle.std.proofs.Common.{◌≡◌, cond, eqb}
use Rattle.cb_gf256.specs.Sum.{sum_over}
use Rattle.cb_gf256.specs.Rows.{byte_at}
use Rattle.cb_scrub.proofs.mending.sum_of_others.Given as goal

abbrev pub invariant-loop-i : goal.invariant-loop-i
invariant-loop-i l = l.sum ≡ sum_over l.i (λ m. cond (eqb m l.position) 0 (byte_at l.rows m l.column))
