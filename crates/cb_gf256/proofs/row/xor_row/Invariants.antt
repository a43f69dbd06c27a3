use Rattle.std.proofs.Common.{◌≡◌}
use Rattle.cb_gf256.specs.Row.{summed_front}
use Rattle.cb_gf256.proofs.row.xor_row.Given as goal

abbrev pub invariant-loop-i : goal.invariant-loop-i
invariant-loop-i l = l.dst ≡ summed_front l.fn.dst l.src l.i
