use Rattle.carbink_c.proofs.Cutting.{Filled}
use Rattle.carbink_c.proofs.buffers.rows_of.Given as goal

abbrev pub invariant-loop-i : goal.invariant-loop-i
invariant-loop-i l = Filled l.len l.count l.i l.buffer l.rows
