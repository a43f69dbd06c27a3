use Rattle.cb_shared.specs.Passes.{IsPassOf}
use Rattle.cb_workers.specs.Bodies.{HasMade, HasOrder}
use Rattle.cb_workers.proofs.working.make_turns.Given as goal

-- so many turns were made, and the next job is due, with its order where it is an install
abbrev pub invariant-loop-number : goal.invariant-loop-number
invariant-loop-number g l = IsPassOf l.shared l.pass
    × HasMade l.shared.config l.worker l.number l.due l.fn.pass.seat.me.0 l.pass.seat.me.0
    × HasOrder l.due l.order l.pass.seat.me.0
