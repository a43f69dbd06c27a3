use Rattle.cb_lanes.specs.LineGoes.{Unpins}
use Rattle.cb_lanes.proofs.ByPass.{ask_knows}
use Rattle.cb_lanes.proofs.passing.PassCallerCaller.unpin.Goals as goal

pub unpin-requires-clause-of : goal.unpin-requires-clause-of
unpin-requires-clause-of g c = c.requires.well.0

pub unpin-requires-clause-held : goal.unpin-requires-clause-held
unpin-requires-clause-held g c = c.requires.well.1

pub returns : goal.returns
returns g c = record {
  goes = c.unpin.ensures.unpin;
  stays = ask_knows c.args.self.now.shared.now.config (Unpins c.args.handle.n) c.unpin.result
      c.args.lane.now.pass.seat.me.0 c.unpin.new.pass.seat.me.0 c.unpin.ensures.unpin;
  error = tt;
  well = (c.unpin.ensures.of, c.unpin.ensures.held);
}
