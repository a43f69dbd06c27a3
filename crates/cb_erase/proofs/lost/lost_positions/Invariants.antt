use Rattle.cb_erase.proofs.Walking.{Walked}
use Rattle.cb_erase.proofs.lost.lost_positions.Given as goal

abbrev pub invariant-loop-p : goal.invariant-loop-p
invariant-loop-p l = Walked l.k l.present l.lost l.seen l.p
