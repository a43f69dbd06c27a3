use Rattle.std.proofs.Common.{◌≡◌, ◌≢◌, ◌≤◌, ℕ, length, Some, slice_get}
use Rattle.cb_world.specs.declared.seats.SeatPin.{SeatPin}
use Rattle.cb_world.proofs.seats.newest_among.Given as goal

-- no pin from here on is on the object
abbrev pub invariant-loop-left : goal.invariant-loop-left
invariant-loop-left l = (l.left ≤ length l.pins)
    × ((at : ℕ) (pin : SeatPin) → l.left ≤ at → slice_get l.pins at ≡ Some pin → pin.handle ≢ l.handle)

abbrev pub decreases-loop-left : goal.decreases-loop-left
decreases-loop-left l = l.left
