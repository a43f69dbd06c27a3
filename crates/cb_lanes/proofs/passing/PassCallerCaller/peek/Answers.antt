use Rattle.std.proofs.Common.{ap, inr}
use Rattle.std.proofs.lemmas.Result.{on_err_weaker}
use Rattle.cb_shared.specs.declared.pass.Pass.{Pass}
use Rattle.cb_lanes.specs.LineGoes.{Peeks}
use Rattle.cb_lanes.proofs.ByPass.{stays_known}
use Rattle.cb_lanes.proofs.passing.PassCallerCaller.peek.Goals as goal

pub peek-requires-clause-of : goal.peek-requires-clause-of
peek-requires-clause-of g c = c.requires.well.0

pub peek-requires-clause-held : goal.peek-requires-clause-held
peek-requires-clause-held g c = c.requires.well.1

pub returns : goal.returns
returns g c = record {
  goes = c.peek.ensures.peek;
  stays = stays_known c.args.self.now.shared.now.config (Peeks c.args.handle.n) c.peek.result
      c.args.lane.now.pass.seat.me.0 c.peek.new.pass.seat.me.0 c.peek.ensures.peek;
  error = on_err_weaker c.peek.result (λ same. inr (ap (λ (p : Pass). p.seat.me.0) same))
      c.peek.ensures.same;
  well = (c.peek.ensures.of, c.peek.ensures.held);
}
