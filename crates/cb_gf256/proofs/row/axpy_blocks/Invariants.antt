use Rattle.std.proofs.Common.{◌≡◌, ◌*◌}
use Rattle.cb_gf256.specs.Row.{scaled_row, summed_front}
use Rattle.cb_gf256.proofs.row.axpy_blocks.Given as goal

abbrev pub invariant-loop-block : goal.invariant-loop-block
invariant-loop-block l = l.dst ≡ summed_front l.initial.dst (scaled_row l.factor l.src) (l.block * 64)
