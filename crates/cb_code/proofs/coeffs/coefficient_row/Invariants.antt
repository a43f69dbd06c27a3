use Rattle.std.proofs.Common.{◌≡◌, ℕ, ◌<◌, length, slice_index}
use Rattle.cb_gf256.specs.Lagrange.{IsLagrangeFactor}
use Rattle.cb_code.proofs.coeffs.coefficient_row.Given as goal

abbrev pub invariant-loop-i : goal.invariant-loop-i
invariant-loop-i l = (length l.row ≡ 16) × ((m : ℕ) → m < l.i → IsLagrangeFactor (length l.lost) (λ x. slice_index l.lost x) l.j m (slice_index l.row m))
