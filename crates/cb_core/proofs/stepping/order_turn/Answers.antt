use Rattle.std.proofs.Common.{sym, subst, arith}
use Rattle.cb_world.specs.World.{WorldState, IsSoundWorld}
use Rattle.cb_core.specs.Jobs.{IsJob}
use Rattle.cb_core.proofs.OrderedWorld.{kept_shown, order_turned}
use Rattle.cb_core.proofs.stepping.order_turn.Goals as goal

pub take_order-order-requires : goal.take_order-order-requires
take_order-order-requires c =
    let sound : IsSoundWorld (record {
      desk = c.world.inside.desk;
      far = c.world.inside.far;
      seats = c.world.inside.seats;
    }) = subst IsSoundWorld (sym c.world.view_is) c.requires.sound in
    let n = sound.pinned.count in let l = c.requires.seat in omega (arith, n, l)

pub turn_with-ended-requires-clause-config : goal.turn_with-ended-requires-clause-config
turn_with-ended-requires-clause-config c =
    let w : WorldState =
    record { desk = c.world.inside.desk; far = c.world.inside.far; seats = c.world.inside.seats } in
    let sound : IsSoundWorld w = subst IsSoundWorld (sym c.world.view_is) c.requires.sound in
    sound.config

pub turn_with-ended-requires-clause-configured : goal.turn_with-ended-requires-clause-configured
turn_with-ended-requires-clause-configured c =
    let w : WorldState =
    record { desk = c.world.inside.desk; far = c.world.inside.far; seats = c.world.inside.seats } in
    let sound : IsSoundWorld w = subst IsSoundWorld (sym c.world.view_is) c.requires.sound in
    sound.configured

pub turn_with-ended-requires-clause-job : goal.turn_with-ended-requires-clause-job
turn_with-ended-requires-clause-job c = subst (λ (v : WorldState). IsJob v.desk.settings c.args.job.now)
    (sym c.world.view_is) c.requires.job

pub turn_with-ended-requires-clause-counted : goal.turn_with-ended-requires-clause-counted
turn_with-ended-requires-clause-counted c =
    let w : WorldState =
    record { desk = c.world.inside.desk; far = c.world.inside.far; seats = c.world.inside.seats } in
    let sound : IsSoundWorld w = subst IsSoundWorld (sym c.world.view_is) c.requires.sound in
    sound.counted

pub turn_with-ended-requires-clause-sound : goal.turn_with-ended-requires-clause-sound
turn_with-ended-requires-clause-sound c =
    let w : WorldState =
    record { desk = c.world.inside.desk; far = c.world.inside.far; seats = c.world.inside.seats } in
    let sound : IsSoundWorld w = subst IsSoundWorld (sym c.world.view_is) c.requires.sound in
    (sound.shown, (sound.known.sized, sound.known.shows), sound.known.sound)

pub turn_with-ended-requires-clause-kept : goal.turn_with-ended-requires-clause-kept
turn_with-ended-requires-clause-kept c =
    let w : WorldState =
    record { desk = c.world.inside.desk; far = c.world.inside.far; seats = c.world.inside.seats } in
    let sound : IsSoundWorld w = subst IsSoundWorld (sym c.world.view_is) c.requires.sound in
    λ s shows here. kept_shown w c.args.seat c.take_order-order.result sound
    c.take_order-order.ensures.order s shows here

pub returns-clause-sound : goal.returns-clause-sound
returns-clause-sound c = (order_turned
    (record { desk = c.world.inside.desk; far = c.world.inside.far; seats = c.world.inside.seats })
    c.args.world.now c.args.seat c.args.job.now c.take_order-order.result c.turn_with-ended.result.0
    c.put_back.result c.turn_with-ended.result.1 c.turn_with-ended.new.desk
    c.turn_with-ended.new.far c.take_order-order.new.self c.put_back.new.seats c.world.view_is
    c.requires.sound c.requires.seat c.requires.needs c.requires.alone
    c.take_order-order.ensures.order c.take_order-order.ensures.taken c.put_back.ensures.kept
    c.put_back.ensures.answer c.turn_with-ended.ensures.ends c.turn_with-ended.ensures.leaves).sound

pub returns-clause-step : goal.returns-clause-step
returns-clause-step c = (order_turned
    (record { desk = c.world.inside.desk; far = c.world.inside.far; seats = c.world.inside.seats })
    c.args.world.now c.args.seat c.args.job.now c.take_order-order.result c.turn_with-ended.result.0
    c.put_back.result c.turn_with-ended.result.1 c.turn_with-ended.new.desk
    c.turn_with-ended.new.far c.take_order-order.new.self c.put_back.new.seats c.world.view_is
    c.requires.sound c.requires.seat c.requires.needs c.requires.alone
    c.take_order-order.ensures.order c.take_order-order.ensures.taken c.put_back.ensures.kept
    c.put_back.ensures.answer c.turn_with-ended.ensures.ends c.turn_with-ended.ensures.leaves).step

pub returns-clause-error : goal.returns-clause-error
returns-clause-error c = (order_turned
    (record { desk = c.world.inside.desk; far = c.world.inside.far; seats = c.world.inside.seats })
    c.args.world.now c.args.seat c.args.job.now c.take_order-order.result c.turn_with-ended.result.0
    c.put_back.result c.turn_with-ended.result.1 c.turn_with-ended.new.desk
    c.turn_with-ended.new.far c.take_order-order.new.self c.put_back.new.seats c.world.view_is
    c.requires.sound c.requires.seat c.requires.needs c.requires.alone
    c.take_order-order.ensures.order c.take_order-order.ensures.taken c.put_back.ensures.kept
    c.put_back.ensures.answer c.turn_with-ended.ensures.ends c.turn_with-ended.ensures.leaves).stops
