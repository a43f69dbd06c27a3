use Rattle.std.proofs.Common.{inr}
use Rattle.cb_lanes.specs.LineGoes.{Peeks}
use Rattle.cb_lanes.proofs.SeatGoes.{seat_stays}
use Rattle.cb_lanes.proofs.Stopping.{err_always}
use Rattle.cb_lanes.proofs.seat.SeatCallerCaller.peek.Goals as goal

pub returns : goal.returns
returns c = record {
  goes = c.peek.ensures.peek;
  stays = seat_stays c.args.self.now.side c.args.self.now.seat
      (Peeks c.args.handle.n) c.args.world.now
      c.peek.new.world c.peek.result c.requires.well.1 c.requires.well.0 c.peek.ensures.peek;
  error = err_always c.peek.result _ (inr tt);
  well = (c.requires.well.0, c.peek.ensures.sound);
}
