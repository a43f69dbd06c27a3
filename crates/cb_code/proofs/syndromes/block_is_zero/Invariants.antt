use Rattle.std.proofs.Common.{◌≡◌, ℕ, ◌+◌, ◌<◌}
use Rattle.cb_gf256.specs.CodeWord.{syndrome}
use Rattle.cb_code.proofs.syndromes.block_is_zero.Given as goal

abbrev pub invariant-loop-j : goal.invariant-loop-j
invariant-loop-j l = (j x : ℕ) → j < l.j → x < 64 → syndrome j l.rows (l.at + x) ≡ 0
