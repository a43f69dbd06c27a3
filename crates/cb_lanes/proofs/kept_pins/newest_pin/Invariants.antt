use Rattle.cb_lanes.proofs.PinsHeld.{NoneBefore}
use Rattle.cb_lanes.proofs.kept_pins.newest_pin.Given as goal

-- no pin before this one is on the object
abbrev pub invariant-loop-at : goal.invariant-loop-at
invariant-loop-at l = NoneBefore l.h l.pins l.at
