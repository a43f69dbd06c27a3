use Rattle.carbink_c.proofs.Losses.{Put}
use Rattle.carbink_c.proofs.telling.put_losses.Given as goal

abbrev pub invariant-loop-i : goal.invariant-loop-i
invariant-loop-i l = Put l.i l.lost l.fn.room l.room
