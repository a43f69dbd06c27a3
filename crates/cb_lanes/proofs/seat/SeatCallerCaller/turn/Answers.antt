use Rattle.std.proofs.Common.{ℕ, ◌<◌, inr}
use Rattle.cb_lanes.specs.LineGoes.{Calls}
use Rattle.cb_lanes.proofs.ByPass.{job_alone}
use Rattle.cb_lanes.proofs.SeatGoes.{may_ask, seat_made, seat_stays}
use Rattle.cb_lanes.proofs.Stopping.{err_always}
use Rattle.cb_lanes.proofs.seat.SeatCallerCaller.turn.Goals as goal

pub turn_at-requires-clause-job : goal.turn_at-requires-clause-job
turn_at-requires-clause-job c = may_ask c.args.world.now.desk.settings c.args.job c.requires.job

pub turn_at-requires-clause-alone : goal.turn_at-requires-clause-alone
turn_at-requires-clause-alone c = job_alone c.args.world.now.desk.settings.nodes
    (λ (h : ℕ). h < c.args.world.now.desk.settings.handles) c.args.job c.requires.job

pub returns : goal.returns
returns c = record {
  goes = c.turn_at.ensures.step;
  stays = seat_stays c.args.self.now.side c.args.self.now.seat (Calls c.args.job) c.args.world.now
      c.turn_at.new.world c.turn_at.result c.requires.well.1 c.requires.well.0
      c.turn_at.ensures.step;
  made = seat_made c.args.self.now.side c.args.self.now.seat c.args.job c.args.world.now
      c.turn_at.new.world c.turn_at.result c.requires.well.1 c.turn_at.ensures.sound
      c.turn_at.ensures.step;
  error = err_always c.turn_at.result _ (inr tt);
  well = (c.requires.well.0, c.turn_at.ensures.sound);
}
