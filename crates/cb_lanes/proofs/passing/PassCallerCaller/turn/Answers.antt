use Rattle.std.proofs.Common.{inr}
use Rattle.std.proofs.lemmas.Result.{on_err_weaker}
use Rattle.cb_lanes.specs.LineGoes.{Calls}
use Rattle.cb_lanes.proofs.ByPass.{KnownTo, is_made, job_alone, job_knows, job_within, stays_known}
use Rattle.cb_lanes.proofs.PinsHeld.{held_same}
use Rattle.cb_lanes.proofs.passing.PassCallerCaller.turn.Goals as goal

pub call-requires-clause-of : goal.call-requires-clause-of
call-requires-clause-of g c = c.requires.well.0

pub call-requires-clause-job : goal.call-requires-clause-job
call-requires-clause-job g c = job_within c.args.self.now.shared.now.config c.args.job
    c.args.lane.now.pass.seat.me.0 c.requires.well.0.rest c.requires.job

pub call-requires-clause-alone : goal.call-requires-clause-alone
call-requires-clause-alone g c = job_alone c.args.self.now.shared.now.config.nodes
    (KnownTo c.args.lane.now.pass.seat.me.0) c.args.job c.requires.job

pub call-requires-clause-knows : goal.call-requires-clause-knows
call-requires-clause-knows g c = job_knows c.args.self.now.shared.now.config.nodes c.args.job
    c.args.lane.now.pass.seat.me.0 c.requires.job

pub returns : goal.returns
returns g c = record {
  goes = c.call.ensures.call;
  stays = stays_known c.args.self.now.shared.now.config (Calls c.args.job) c.call.result
      c.args.lane.now.pass.seat.me.0 c.call.new.pass.seat.me.0 c.call.ensures.call;
  made = is_made c.args.self.now.shared.now.config c.args.job c.call.result
      c.args.lane.now.pass.seat.me.0 c.call.new.pass.seat.me.0 c.call.ensures.call;
  error = on_err_weaker c.call.result inr c.call.ensures.error;
  well = (
    c.call.ensures.of,
    held_same c.args.lane.now.pins.items c.args.lane.now.pass.seat.me.0 c.call.new.pass.seat.me.0
        c.call.ensures.pins c.requires.well.1,
  );
}
