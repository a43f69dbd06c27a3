use Rattle.std.proofs.Common.{◌≡◌, replicate}
use Rattle.cb_world.specs.Seats.{idle_seat}
use Rattle.cb_world.proofs.seats.Seats.new.Given as goal

abbrev pub invariant-loop : goal.invariant-loop
invariant-loop l = l.seats.items ≡ replicate l.counter idle_seat
