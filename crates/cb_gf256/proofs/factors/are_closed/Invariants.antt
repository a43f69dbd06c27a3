use Rattle.std.proofs.Common.{◌≡◌, ℕ, ◌<◌}
use Rattle.cb_gf256.specs.Sum.{sum_over}
use Rattle.cb_gf256.specs.Rows.{byte_at}
use Rattle.cb_gf256.proofs.factors.are_closed.Given as goal

abbrev pub invariant-loop-i : goal.invariant-loop-i
invariant-loop-i l = (m : ℕ) → m < l.i → sum_over l.height (λ j. byte_at l.products j m) ≡ 1
