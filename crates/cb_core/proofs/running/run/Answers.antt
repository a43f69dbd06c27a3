use Rattle.std.proofs.Common.{rules, sym, subst, ◌+◌, [], ◌∷◌, ◌++◌}
use Rattle.cb_types.specs.declared.config.Config.{Config}
use Rattle.cb_core.specs.Events.{IsEvent}
use Rattle.cb_core.specs.Run.{LeavesPrefix, RunStops}
use Rattle.cb_core.specs.Called.{StandsBeside}
use Rattle.cb_core.proofs.PinnedStays.{leads_pinned, pinned_unmoved}
use Rattle.cb_core.proofs.RunLegal.{run_legal, run_from_empty, empty_stands}
use Rattle.cb_core.proofs.Runs.{going_more, going_all, going_stops, going_ends, only_leads, of_error, event_at}
use Rattle.cb_core.proofs.StepFixed.{only_run}
use Rattle.cb_core.proofs.Stopping.{prefix_ends, prefix_stops}
use Rattle.cb_core.proofs.EventTells.{leads_telling}
use Rattle.cb_core.proofs.running.run.Goals as goal

pub step-requires-clause-event : goal.step-requires-clause-event
step-requires-clause-event c =
    subst (λ (s : Config). IsEvent s c.event-item.result) (sym c.loop-event.invariant.settings)
    (event_at c.args.world.now.desk.settings c.args.events.now c.loop-event.event-index
    c.event-item.result c.requires.events (search rules) (search rules))

pub loop-event-preserved : goal.loop-event-preserved
loop-event-preserved c = rw c.in_ok-push.ensures.ok
    (going_more c.args.world.now c.args.events.now c.loop-event.event-index c.loop-event.replies
    c.loop-event.world c.step.new.world c.event-item.result c.in_ok-reply.reply c.loop-event.invariant
    (search rules) (search rules) c.in_ok-reply.ensures.step c.in_ok-reply.ensures.sound)

pub returns-clause-along : goal.returns-clause-along
returns-clause-along c = going_all c.args.world.now c.args.events.now c.loop-event.event-index
    c.loop-event.replies c.loop-event.world c.loop-event.invariant c.loop-event-test.false

pub returns-clause-leads : goal.returns-clause-leads
returns-clause-leads c = only_leads c.args.world.now c.loop-event.world c.args.events.now
    c.loop-event.replies (going_all c.args.world.now c.args.events.now c.loop-event.event-index
    c.loop-event.replies c.loop-event.world c.loop-event.invariant c.loop-event-test.false)

pub returns-clause-fixes : goal.returns-clause-fixes
returns-clause-fixes c = only_run c.args.world.now c.loop-event.world c.args.events.now
    c.loop-event.replies c.requires.sound (going_all c.args.world.now c.args.events.now
    c.loop-event.event-index c.loop-event.replies c.loop-event.world c.loop-event.invariant
    c.loop-event-test.false)

pub returns-clause-pinned : goal.returns-clause-pinned
returns-clause-pinned c = leads_pinned c.args.events.now c.loop-event.replies c.args.world.now
    c.loop-event.world (going_all c.args.world.now c.args.events.now c.loop-event.event-index
    c.loop-event.replies c.loop-event.world c.loop-event.invariant c.loop-event-test.false)
    c.requires.events c.requires.sound

pub returns-clause-unmoved : goal.returns-clause-unmoved
returns-clause-unmoved c h leads pinned = (pinned_unmoved c.args.events.now c.loop-event.replies
    c.args.world.now c.loop-event.world h leads pinned).0

pub returns-clause-unavailable : goal.returns-clause-unavailable
returns-clause-unavailable c = leads_telling c.args.events.now c.loop-event.replies c.args.world.now
    c.loop-event.world (going_all c.args.world.now c.args.events.now c.loop-event.event-index
    c.loop-event.replies c.loop-event.world c.loop-event.invariant c.loop-event-test.false)
    c.requires.events c.requires.sound

pub returns-clause-legal : goal.returns-clause-legal
returns-clause-legal c before claims stands = run_legal c.args.events.now c.loop-event.replies c.args.world.now
    c.loop-event.world (going_all c.args.world.now c.args.events.now c.loop-event.event-index
    c.loop-event.replies c.loop-event.world c.loop-event.invariant c.loop-event-test.false)
    c.requires.events c.requires.sound before claims stands

pub returns-clause-from_empty : goal.returns-clause-from_empty
returns-clause-from_empty c empty = run_from_empty c.args.events.now c.loop-event.replies
    c.args.world.now c.loop-event.world (going_all c.args.world.now c.args.events.now
    c.loop-event.event-index c.loop-event.replies c.loop-event.world c.loop-event.invariant
    c.loop-event-test.false) c.requires.events c.requires.sound
    (subst (StandsBeside [] []) (sym empty) (empty_stands c.args.world.now.desk.settings
    c.requires.sound.config))

pub returns-in_err-reply-clause-stops : goal.returns-in_err-reply-clause-stops
returns-in_err-reply-clause-stops c =
    of_error (RunStops c.args.world.now c.args.events.now c.step.new.world) c.from_residual.result
    (going_stops c.args.world.now c.args.events.now c.loop-event.event-index c.loop-event.replies
    c.loop-event.world c.step.new.world c.event-item.result c.loop-event.invariant (search rules)
    (search rules) c.in_err-reply.ensures.error)

pub returns-in_err-push-clause-stops : goal.returns-in_err-push-clause-stops
returns-in_err-push-clause-stops c =
    of_error (RunStops c.args.world.now c.args.events.now c.step.new.world)
    c.from_residual-in_err-push.result
    (going_ends c.args.world.now c.args.events.now (c.loop-event.event-index + 1)
    (c.loop-event.replies ++ c.in_ok-reply.reply ∷ []) c.step.new.world
    (going_more c.args.world.now c.args.events.now c.loop-event.event-index c.loop-event.replies
    c.loop-event.world c.step.new.world c.event-item.result c.in_ok-reply.reply c.loop-event.invariant
    (search rules) (search rules) c.in_ok-reply.ensures.step c.in_ok-reply.ensures.sound))

pub returns-in_err-reply-clause-error : goal.returns-in_err-reply-clause-error
returns-in_err-reply-clause-error c =
    of_error (LeavesPrefix c.args.world.now c.args.events.now c.step.new.world) c.from_residual.result
    (prefix_stops c.args.world.now c.args.events.now c.loop-event.event-index c.loop-event.replies
    c.loop-event.world c.step.new.world c.event-item.result c.loop-event.invariant (search rules)
    (search rules) c.in_err-reply.ensures.error)

pub returns-in_err-push-clause-error : goal.returns-in_err-push-clause-error
returns-in_err-push-clause-error c =
    of_error (LeavesPrefix c.args.world.now c.args.events.now c.step.new.world)
    c.from_residual-in_err-push.result
    (prefix_ends c.args.world.now c.args.events.now (c.loop-event.event-index + 1)
    (c.loop-event.replies ++ c.in_ok-reply.reply ∷ []) c.step.new.world
    (going_more c.args.world.now c.args.events.now c.loop-event.event-index c.loop-event.replies
    c.loop-event.world c.step.new.world c.event-item.result c.in_ok-reply.reply c.loop-event.invariant
    (search rules) (search rules) c.in_ok-reply.ensures.step c.in_ok-reply.ensures.sound))
