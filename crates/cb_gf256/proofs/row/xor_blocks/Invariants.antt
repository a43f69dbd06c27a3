use Rattle.std.proofs.Common.{◌≡◌, ◌*◌}
use Rattle.cb_gf256.specs.Row.{summed_front}
use Rattle.cb_gf256.proofs.row.xor_blocks.Given as goal

abbrev pub invariant-loop-block : goal.invariant-loop-block
invariant-loop-block l = l.dst ≡ summed_front l.initial.dst l.src (l.block * 64)
