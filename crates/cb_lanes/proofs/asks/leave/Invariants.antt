use Rattle.std.proofs.Common.{◌≡◌, ◌+◌, length}
use Rattle.cb_shared.specs.Passes.{IsPassOf}
use Rattle.cb_lanes.specs.Passing.{AreHeld}
use Rattle.cb_lanes.proofs.PinsEnd.{PinsAlone}
use Rattle.cb_lanes.proofs.asks.leave.Given as goal

-- so many pins were given back, and nothing else was done
abbrev pub invariant-loop : goal.invariant-loop
invariant-loop l = IsPassOf l.shared l.pass
    × AreHeld l.pins.items l.pass.seat.me.0
    × (l.counter + length l.pins.items ≡ l.count)
    × PinsAlone l.fn.pass.seat.me.0 l.pass.seat.me.0
