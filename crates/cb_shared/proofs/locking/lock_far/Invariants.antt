use Rattle.cb_shared.specs.Seats.{Moves, record_at}
use Rattle.cb_shared.proofs.locking.lock_far.Given as goal

abbrev pub invariant-loop : goal.invariant-loop
invariant-loop g l = Moves l.fn.seat l.seat (record_at l.fn.seat)

abbrev pub ghosts-take_far : goal.ghosts-take_far
ghosts-take_far g a = record { first = a.top.now.key.first }
