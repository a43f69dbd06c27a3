use Rattle.std.proofs.Common.{◌≡◌, ◌<◌, ℕ, false}
use Rattle.cb_world.specs.Seats.{seat_at}
use Rattle.cb_world.proofs.seats.any_holds.Given as goal

-- no seat before here holds the lock
abbrev pub invariant-loop-at : goal.invariant-loop-at
invariant-loop-at l = (k : ℕ) → k < l.at → (seat_at l.seats k).holds ≡ false
