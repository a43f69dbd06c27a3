use Rattle.std.proofs.Common.{inr}
use Rattle.cb_lanes.specs.LineGoes.{Pins}
use Rattle.cb_lanes.proofs.SeatGoes.{seat_stays}
use Rattle.cb_lanes.proofs.Stopping.{err_always}
use Rattle.cb_lanes.proofs.seat.SeatCallerCaller.pin.Goals as goal

pub returns : goal.returns
returns c = record {
  goes = c.pin.ensures.pin;
  stays = seat_stays c.args.self.now.side c.args.self.now.seat
      (Pins c.args.handle.n) c.args.world.now
      c.pin.new.world c.pin.result c.requires.well.1 c.requires.well.0 c.pin.ensures.pin;
  error = err_always c.pin.result _ (inr tt);
  well = (c.requires.well.0, c.pin.ensures.sound);
}
