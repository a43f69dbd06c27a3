use Rattle.std.proofs.Common.{◌≡◌, length, take}
use Rattle.cb_gf256.specs.Block.{cut_rows}
use Rattle.carbink_c.proofs.buffers.same_rows.Given as goal

abbrev pub invariant-loop-i : goal.invariant-loop-i
invariant-loop-i l = take l.i (cut_rows (length l.rows) l.len l.buffer) ≡ take l.i l.rows
