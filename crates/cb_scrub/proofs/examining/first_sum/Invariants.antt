use Rattle.std.proofs.Common.{◌≡◌, ℕ, ◌<◌}
use Rattle.cb_gf256.specs.CodeWord.{syndrome}
use Rattle.cb_scrub.proofs.examining.first_sum.Given as goal

abbrev pub invariant-loop-power : goal.invariant-loop-power
invariant-loop-power l = (m : ℕ) → m < l.power → syndrome m l.rows l.column ≡ 0
