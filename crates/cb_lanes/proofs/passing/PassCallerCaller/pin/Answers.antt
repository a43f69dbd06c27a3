use Rattle.std.proofs.Common.{inr}
use Rattle.std.proofs.lemmas.Result.{IfOk-weaker, on_err_weaker}
use Rattle.cb_lanes.specs.LineGoes.{Pins}
use Rattle.cb_lanes.proofs.ByPass.{stays_known}
use Rattle.cb_lanes.proofs.passing.PassCallerCaller.pin.Goals as goal

pub pin-requires-clause-of : goal.pin-requires-clause-of
pin-requires-clause-of g c = c.requires.well.0

pub pin-requires-clause-knows : goal.pin-requires-clause-knows
pin-requires-clause-knows g c = c.requires.named

pub pin-requires-clause-held : goal.pin-requires-clause-held
pin-requires-clause-held g c = c.requires.well.1

pub returns : goal.returns
returns g c = let goes = IfOk-weaker c.pin.result _ _ (λ r x. (x, c.pin.ensures.jobs))
    c.pin.ensures.pin in record {
      goes = goes;
      stays = stays_known c.args.self.now.shared.now.config (Pins c.args.handle.n) c.pin.result
          c.args.lane.now.pass.seat.me.0 c.pin.new.pass.seat.me.0 goes;
      error = on_err_weaker c.pin.result (λ x. inr (x, c.pin.ensures.jobs)) c.pin.ensures.error;
      well = (c.pin.ensures.of, c.pin.ensures.held);
    }
