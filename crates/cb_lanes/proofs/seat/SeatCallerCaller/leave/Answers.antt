use Rattle.std.proofs.Common.{ℕ, ap}
use Rattle.cb_types.specs.declared.reply.Reply.TheVariants as answer
use Rattle.cb_lanes.proofs.SeatGoes.{seat_left}
use Rattle.cb_lanes.proofs.seat.SeatCallerCaller.leave.Goals as goal

pub returns : goal.returns
returns c = record {
  goes = (ap (λ (n : ℕ). answer.Left n) c.in_ok-pins.ensures.pins, c.in_ok-pins.ensures.gives);
  stays = seat_left c.args.self.now.seat c.args.world.now c.give_back.new.world c.requires.well.1
      c.requires.well.0 c.in_ok-pins.ensures.gives;
  error = tt;
  well = (c.requires.well.0, c.give_back.ensures.sound);
}
