use Rattle.std.proofs.Common.{ap, ◌∙◌}
use Rattle.cb_world.specs.Seats.{pins_of_seat}
use Rattle.cb_world.specs.World.{WorldState}
use Rattle.cb_lanes.proofs.GivingBack.{gave_newest}
use Rattle.cb_lanes.proofs.resting.give_newest.Goals as goal

pub returns-clause-gives : goal.returns-clause-gives
returns-clause-gives c = (gave_newest c.args.seat c.args.world.now c.step.new.world
    c.pins-pins.result.now _
    c.in_ok-step.field-0 c.requires.sound c.requires.seat c.requires.some
    (c.pins-pins.ensures.pins ∙ ap (λ (v : WorldState). pins_of_seat v.seats c.args.seat)
    c.world.view_is)
    c.in_ok-step.ensures.step).goes

pub returns-clause-fewer : goal.returns-clause-fewer
returns-clause-fewer c = (gave_newest c.args.seat c.args.world.now c.step.new.world
    c.pins-pins.result.now _
    c.in_ok-step.field-0 c.requires.sound c.requires.seat c.requires.some
    (c.pins-pins.ensures.pins ∙ ap (λ (v : WorldState). pins_of_seat v.seats c.args.seat)
    c.world.view_is)
    c.in_ok-step.ensures.step).fewer
