use Rattle.std.proofs.Common.{sym, subst}
use Rattle.cb_world.specs.World.{WorldState, IsSoundWorld}
use Rattle.cb_core.specs.Jobs.{IsJob}
use Rattle.cb_core.specs.Step.{TurnStep, TurnStops}
use Rattle.cb_core.proofs.Composing.{by_result, err_map, if_map}
use Rattle.cb_core.proofs.WorldKept.{turn_works, with_job, turn_stops}
use Rattle.cb_core.proofs.stepping.turn_step.Goals as goal

pub returns-clause-step : goal.returns-clause-step
returns-clause-step c =
    let w : WorldState =
    record { desk = c.world.inside.desk; far = c.world.inside.far; seats = c.world.inside.seats } in
    if_map _ _ c.turn.result c.turn.ensures.turned (λ r turned.
    let z = turn_works w c.args.job.now r c.turn.new.desk c.turn.new.far
    (subst IsSoundWorld (sym c.world.view_is) c.requires.sound)
    (subst (λ (v : WorldState). IsJob v.desk.settings c.args.job.now) (sym c.world.view_is) c.requires.job)
    turned in
    subst (λ (v : WorldState). TurnStep c.args.job.now v r (with_job w c.turn.new.desk c.turn.new.far))
    c.world.view_is z.step)

pub returns-clause-sound : goal.returns-clause-sound
returns-clause-sound c =
    let w : WorldState =
    record { desk = c.world.inside.desk; far = c.world.inside.far; seats = c.world.inside.seats } in
    let sound : IsSoundWorld w = subst IsSoundWorld (sym c.world.view_is) c.requires.sound in
    by_result _ _ _ c.turn.result c.turn.ensures.turned c.turn.ensures.error
    (λ r turned. (turn_works w c.args.job.now r c.turn.new.desk c.turn.new.far sound
    (subst (λ (v : WorldState). IsJob v.desk.settings c.args.job.now) (sym c.world.view_is) c.requires.job)
    turned).sound)
    (λ stopped. (turn_stops w c.args.job.now c.turn.new.desk c.turn.new.far sound stopped).sound)

pub returns-clause-error : goal.returns-clause-error
returns-clause-error c =
    let w : WorldState =
    record { desk = c.world.inside.desk; far = c.world.inside.far; seats = c.world.inside.seats } in
    let sound : IsSoundWorld w = subst IsSoundWorld (sym c.world.view_is) c.requires.sound in
    err_map _ _ c.turn.result c.turn.ensures.error (λ stopped.
    let z = turn_stops w c.args.job.now c.turn.new.desk c.turn.new.far sound stopped in
    subst (λ (v : WorldState). TurnStops c.args.job.now v (with_job w c.turn.new.desk c.turn.new.far))
    c.world.view_is z.stops)
