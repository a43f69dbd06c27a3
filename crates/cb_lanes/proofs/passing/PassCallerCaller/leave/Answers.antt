use Rattle.std.proofs.Common.{ℕ, ap}
use Rattle.cb_types.specs.declared.reply.Reply.TheVariants as answer
use Rattle.cb_lanes.specs.LineGoes.{Leaves}
use Rattle.cb_lanes.proofs.ByPass.{ask_knows}
use Rattle.cb_lanes.proofs.passing.PassCallerCaller.leave.Goals as goal

pub leave-pins-requires-clause-of : goal.leave-pins-requires-clause-of
leave-pins-requires-clause-of g c = c.requires.well.0

pub leave-pins-requires-clause-held : goal.leave-pins-requires-clause-held
leave-pins-requires-clause-held g c = c.requires.well.1

pub returns : goal.returns
returns g c = record {
  goes = (ap (λ (n : ℕ). answer.Left n) c.leave-pins.ensures.count, c.leave-pins.ensures.left);
  stays = ask_knows c.args.self.now.shared.now.config Leaves (answer.Left c.leave-pins.result)
      c.args.lane.now.pass.seat.me.0 c.leave-pins.new.pass.seat.me.0
      (ap (λ (n : ℕ). answer.Left n) c.leave-pins.ensures.count, c.leave-pins.ensures.left);
  error = tt;
  well = (c.leave-pins.ensures.of, c.leave-pins.ensures.held);
}
