use Rattle.std.proofs.Common.{sym, subst}
use Rattle.std.specs.Prelude.{IfOk, OnErr}
use Rattle.cb_core.specs.declared.event.Event.{Event}
use Rattle.cb_core.specs.declared.event.Event.TheVariants as event
use Rattle.cb_core.specs.Run.{IsOnlyStep, LeavesAsBefore}
use Rattle.cb_core.specs.Step.{EventStops, SeatTurn, Step}
use Rattle.cb_core.specs.Unavailable.{TellsUnavailable}
use Rattle.cb_core.proofs.Composing.{err_map, if_map}
use Rattle.cb_core.proofs.StepFixed.{only_step}
use Rattle.cb_core.proofs.Stopping.{stop_leaves}
use Rattle.cb_core.proofs.EventTells.{seat_tells, step_tells}
use Rattle.cb_core.proofs.stepping.step.Goals as goal

pub returns-in-Step-clause-fixes : goal.returns-in-Step-clause-fixes
returns-in-Step-clause-fixes c =
    let w = c.args.world.now in let e = event.Step c.in-Step.seat c.in-Step.atomic in
    subst (λ (e : Event). IfOk c.atomic_step.result (λ reply. IsOnlyStep w e reply c.atomic_step.new.world))
    (sym c.in-Step.is)
    (if_map (λ reply. IsOnlyStep w e reply c.atomic_step.new.world)
    (λ reply. Step w e reply c.atomic_step.new.world) c.atomic_step.result c.atomic_step.ensures.step
    (λ reply step. only_step w c.atomic_step.new.world e reply c.requires.sound step))

pub returns-in-Turn-clause-fixes : goal.returns-in-Turn-clause-fixes
returns-in-Turn-clause-fixes c =
    let w = c.args.world.now in let e = event.Turn c.in-Turn.seat c.in-Turn.job in
    subst (λ (e : Event). IfOk c.seat_turn.result (λ reply. IsOnlyStep w e reply c.seat_turn.new.world))
    (sym c.in-Turn.is)
    (if_map (λ reply. IsOnlyStep w e reply c.seat_turn.new.world)
    (λ reply. Step w e reply c.seat_turn.new.world) c.seat_turn.result c.seat_turn.ensures.step
    (λ reply step. only_step w c.seat_turn.new.world e reply c.requires.sound step))

pub returns-in-Step-clause-unavailable : goal.returns-in-Step-clause-unavailable
returns-in-Step-clause-unavailable c =
    let w = c.args.world.now in let e = event.Step c.in-Step.seat c.in-Step.atomic in
    subst (λ (e : Event). IfOk c.atomic_step.result (λ reply. TellsUnavailable w e reply))
    (sym c.in-Step.is)
    (if_map (λ reply. TellsUnavailable w e reply)
    (λ reply. Step w e reply c.atomic_step.new.world) c.atomic_step.result c.atomic_step.ensures.step
    (λ reply step. step_tells e w c.atomic_step.new.world reply c.requires.sound
    c.atomic_step.ensures.sound (rw c.in-Step.is at c.requires.event) step))

pub returns-in-Turn-clause-unavailable : goal.returns-in-Turn-clause-unavailable
returns-in-Turn-clause-unavailable c =
    let w = c.args.world.now in let job = c.in-Turn.job in
    subst (λ (e : Event). IfOk c.seat_turn.result (λ reply. TellsUnavailable w e reply))
    (sym c.in-Turn.is)
    (if_map (λ reply. TellsUnavailable w (event.Turn c.in-Turn.seat job) reply)
    (λ reply. SeatTurn c.in-Turn.seat job w reply c.seat_turn.new.world) c.seat_turn.result c.seat_turn.ensures.step
    (λ reply step. seat_tells job w c.seat_turn.new.world c.in-Turn.seat reply c.requires.sound
    c.seat_turn.ensures.sound (rw c.in-Turn.is at c.requires.event).1 step))

pub returns-in-Turn-clause-leaves : goal.returns-in-Turn-clause-leaves
returns-in-Turn-clause-leaves c =
    let w = c.args.world.now in let job = c.in-Turn.job in
    subst (λ (e : Event). OnErr c.seat_turn.result (LeavesAsBefore w e c.seat_turn.new.world))
    (sym c.in-Turn.is)
    (err_map (LeavesAsBefore w (event.Turn c.in-Turn.seat job) c.seat_turn.new.world)
    (EventStops w (event.Turn c.in-Turn.seat job) c.seat_turn.new.world) c.seat_turn.result c.seat_turn.ensures.error
    (λ stops. stop_leaves (event.Turn c.in-Turn.seat job) w c.seat_turn.new.world c.requires.sound stops))
