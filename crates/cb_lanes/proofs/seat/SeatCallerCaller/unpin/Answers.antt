use Rattle.std.proofs.Common.{inr}
use Rattle.cb_lanes.specs.LineGoes.{Unpins}
use Rattle.cb_lanes.proofs.SeatGoes.{seat_stays}
use Rattle.cb_lanes.proofs.Stopping.{err_always}
use Rattle.cb_lanes.proofs.seat.SeatCallerCaller.unpin.Goals as goal

pub returns : goal.returns
returns c = record {
  goes = c.step_of.ensures.step;
  stays = seat_stays c.args.self.now.side c.args.self.now.seat
      (Unpins c.args.handle.n) c.args.world.now
      c.step_of.new.world c.step_of.result c.requires.well.1 c.requires.well.0
      c.step_of.ensures.step;
  error = err_always c.step_of.result _ (inr tt);
  well = (c.requires.well.0, c.step_of.ensures.sound);
}
