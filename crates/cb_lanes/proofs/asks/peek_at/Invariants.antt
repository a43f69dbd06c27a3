use Rattle.std.proofs.Common.{◌≡◌, ℕ, List, length}
use Rattle.cb_rule.specs.Lists.{Has}
use Rattle.cb_shared.specs.Passes.{IsPassOf, stand_of}
use Rattle.cb_lanes.proofs.Peeking.{PeeksSome}
use Rattle.cb_lanes.proofs.asks.peek_at.Given as goal

-- the first words of the pin were peeked, and their bytes stand in the room
abbrev pub invariant-loop-i : goal.invariant-loop-i
invariant-loop-i l = IsPassOf l.shared l.pass
    × (length l.room ≡ l.pin.len)
    × ((words : List ℕ) → Has (stand_of l.pin words) l.fn.pass.seat.me.0.pins
    → PeeksSome (stand_of l.pin words) l.i l.room l.fn.pass.seat.me.0 l.pass.seat.me.0)
