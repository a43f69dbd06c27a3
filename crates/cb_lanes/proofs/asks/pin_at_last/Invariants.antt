use Rattle.cb_shared.specs.Fetching.{AreTried, GetsTurns}
use Rattle.cb_shared.specs.Passes.{IsPassOf}
use Rattle.cb_lanes.specs.Passing.{AreHeld, PinsInVain}
use Rattle.cb_lanes.proofs.asks.pin_at_last.Given as goal

-- tries so far came to nothing, and the next one fetches the object again
abbrev pub invariant-loop : goal.invariant-loop
invariant-loop g l = IsPassOf l.shared l.pass
    × AreHeld l.pins.items l.pass.seat.me.0
    × PinsInVain l.shared.config l.h.n l.fn.pass.seat.me.0 l.pass.seat.me.0
    × GetsTurns (AreTried l.h.n) l.fn.pass.seat.me.0 l.pass.seat.me.0
