use Rattle.std.proofs.Common.{◌<◌, sym, ◌∙◌, subst}
use Rattle.cb_types.specs.declared.config.Config.{Config}
use Rattle.cb_types.specs.declared.job.Job.TheVariants as job
use Rattle.cb_types.specs.declared.reply.Reply.{Reply}
use Rattle.cb_types.specs.declared.reply.Reply.TheVariants as answer
use Rattle.cb_core.specs.declared.event.Atomic.TheVariants as atomic
use Rattle.cb_core.specs.declared.event.Event.TheVariants as event
use Rattle.cb_core.proofs.Laws.{step_settings}
use Rattle.cb_world.specs.World.{WorldState}
use Rattle.cb_lanes.specs.LineStep.{PinEvent, SwapEvent, at_once, stays_far, swapped_in}
use Rattle.cb_lanes.proofs.FarPins.{far_to_pin}
use Rattle.cb_lanes.proofs.Shown.{ok_then}
use Rattle.cb_lanes.proofs.seat.pin.Goals as goal

pub turn_of-requires-clause-job : goal.turn_of-requires-clause-job
turn_of-requires-clause-job c = subst (λ (d : Config). c.args.handle.n < d.handles)
    (sym (step_settings c.args.world.now c.step_of.new.world
    (event.Step c.args.seat (atomic.Pin c.args.handle)) c.in_ok-reply.reply
    c.in_ok-reply.ensures.step))
    c.requires.within

pub turn_of-requires-clause-sound : goal.turn_of-requires-clause-sound
turn_of-requires-clause-sound c = c.step_of.ensures.sound

pub step_of-requires-then-is_there-clause-handle : goal.step_of-requires-then-is_there-clause-handle
step_of-requires-then-is_there-clause-handle c = subst (λ (d : Config). c.args.handle.n < d.handles)
    (sym (step_settings c.step_of.new.world c.turn_of.new.world
    (event.Turn c.args.seat (job.Swap c.args.handle)) c.in_ok-reply-in-NotHere.reply
    c.in_ok-reply-in-NotHere.ensures.step
    ∙ step_settings c.args.world.now c.step_of.new.world
    (event.Step c.args.seat (atomic.Pin c.args.handle)) c.in_ok-reply.reply
    c.in_ok-reply.ensures.step))
    c.requires.within

pub step_of-requires-then-is_there-clause-sound : goal.step_of-requires-then-is_there-clause-sound
step_of-requires-then-is_there-clause-sound c = c.turn_of.ensures.sound

pub returns-then-is_there : goal.returns-then-is_there
returns-then-is_there c =
    let first : PinEvent c.args.seat c.args.handle.n c.args.world.now answer.NotHere
    c.step_of.new.world =
    subst (λ (q : Reply). PinEvent c.args.seat c.args.handle.n c.args.world.now q
    c.step_of.new.world)
    c.in-NotHere.is c.in_ok-reply.ensures.step in record {
      pin = ok_then c.step_of-then-is_there.result (λ r again.
          let z = far_to_pin c.args.seat c.args.handle.n c.args.world.now c.step_of.new.world first
          in
          swapped_in c.turn_of.new.world c.in_ok-reply-in-NotHere.reply z.0
          (subst (λ (v : WorldState). SwapEvent c.args.seat c.args.handle.n v
          c.in_ok-reply-in-NotHere.reply c.turn_of.new.world) z.1
          c.in_ok-reply-in-NotHere.ensures.step)
          (c.is_there.ensures.yes c.if-is_there.true) again) c.step_of-then-is_there.ensures.step;
      sound = c.step_of-then-is_there.ensures.sound;
    }

pub returns-else-is_there : goal.returns-else-is_there
returns-else-is_there c =
    let first : PinEvent c.args.seat c.args.handle.n c.args.world.now answer.NotHere
    c.step_of.new.world =
    subst (λ (q : Reply). PinEvent c.args.seat c.args.handle.n c.args.world.now q
    c.step_of.new.world)
    c.in-NotHere.is c.in_ok-reply.ensures.step in record {
      pin = let z = far_to_pin c.args.seat c.args.handle.n c.args.world.now c.step_of.new.world
          first in
          stays_far z.0 (subst (λ (v : WorldState). SwapEvent c.args.seat c.args.handle.n v
          c.in_ok-reply-in-NotHere.reply c.turn_of.new.world) z.1
          c.in_ok-reply-in-NotHere.ensures.step)
          (c.is_there.ensures.other c.if-is_there.false);
      sound = c.turn_of.ensures.sound;
    }

pub returns-in_default : goal.returns-in_default
returns-in_default c = record {
  pin = at_once c.in_ok-reply.ensures.step c.in_default.not-NotHere;
  sound = c.step_of.ensures.sound;
}
