use Rattle.std.proofs.Common.{◌≡◌, ℕ, ◌*◌, ◌<◌}
use Rattle.cb_gf256.specs.CodeWord.{syndrome}
use Rattle.cb_code.proofs.syndromes.blocks_are_zero.Given as goal

abbrev pub invariant-loop-block : goal.invariant-loop-block
invariant-loop-block l = (x j : ℕ) → x < l.block * 64 → j < l.r → syndrome j l.rows x ≡ 0
