use Rattle.cb_lanes.proofs.SeatGoes.{other_turn}
use Rattle.cb_lanes.proofs.seat.turn_at.Goals as goal

pub returns-in_default-clause-step : goal.returns-in_default-clause-step
returns-in_default-clause-step c = other_turn c.args.job c.args.side c.args.seat c.args.world.now
    c.turn_of.new.world c.turn_of.result c.in_default.not-Compact c.turn_of.ensures.step
