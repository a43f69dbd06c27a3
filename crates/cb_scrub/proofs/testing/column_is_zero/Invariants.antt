use Rattle.std.proofs.Common.{◌≡◌, ℕ, ◌<◌}
use Rattle.cb_gf256.specs.CodeWord.{syndrome}
use Rattle.cb_scrub.proofs.testing.column_is_zero.Given as goal

abbrev pub invariant-loop-j : goal.invariant-loop-j
invariant-loop-j l = (m : ℕ) → m < l.j → syndrome m l.rows l.column ≡ 0
