use Rattle.std.proofs.Common.{◌≡◌, ℕ, ◌<◌, ◌≤◌}
use Rattle.cb_gf256.specs.CodeWord.{syndrome}
use Rattle.cb_code.proofs.syndromes.columns_are_zero.Given as goal

abbrev pub invariant-loop-column : goal.invariant-loop-column
invariant-loop-column l = (x j : ℕ) → l.from ≤ x → x < l.column → j < l.r → syndrome j l.rows x ≡ 0
