use Rattle.std.proofs.Common.{refl, sym, subst}
use Rattle.cb_types.specs.declared.job.Job.TheVariants as job
use Rattle.cb_types.specs.Jobs.{job_index}
use Rattle.cb_world.specs.Counts.{with_turn}
use Rattle.cb_world.specs.World.{IsConfigured}
use Rattle.cb_world.proofs.Laws.{recounted}
use Rattle.cb_swapin.specs.LandRule.{done_order}
use Rattle.cb_core.specs.Ordered.TurnedWith.{worn}
use Rattle.cb_core.proofs.Composing.{holding, if_map}
use Rattle.cb_core.proofs.Counting.{counted_sound}
use Rattle.cb_core.proofs.LandTold.{land_late}
use Rattle.cb_core.proofs.NoFrames.{Never, room_never}
use Rattle.cb_core.proofs.OrdersCounted.{counted_kept}
use Rattle.cb_core.proofs.OrdersLeave.{worn_leaves}
use Rattle.cb_core.proofs.OrderTurns.{land_outcome, land_stopped, land_turned, lands_told}
use Rattle.cb_core.proofs.TurnLeft.{laws_of}
use Rattle.cb_core.proofs.fetching.land.Goals as goal

pub returns-then-not-count_turn-clause-turned : goal.returns-then-not-count_turn-clause-turned
returns-then-not-count_turn-clause-turned g c =
    let d = c.count_turn.ensures.worn c.if-not-count_turn.true in
    λ order asked. worn d.0 refl refl d.1 (g.met.D.Desk.none c.args.desk.now)

pub returns-then-not-count_turn-clause-unavailable : goal.returns-then-not-count_turn-clause-unavailable
returns-then-not-count_turn-clause-unavailable g c =
    let d = c.count_turn.ensures.worn c.if-not-count_turn.true in
    land_late (done_order c.args.done) c.args.far.now d.0

pub returns-then-not-count_turn-clause-leaves : goal.returns-then-not-count_turn-clause-leaves
returns-then-not-count_turn-clause-leaves g c =
    let d = c.count_turn.ensures.worn c.if-not-count_turn.true in
    let laws = laws_of g.D.Desk.run g.D.Desk.shows g.met.D.Desk.none
    g.met.D.Desk.more g.met.D.Desk.follows in
    let k = c.requires.kept in
    worn_leaves g.D.Desk.run g.D.Desk.shows laws
    (g.D.Desk.settings c.args.desk.now) c.requires.config
    (holding c.args.desk.now c.args.far.now) (holding c.args.desk.now c.count_turn.new.far)
    (record { configured = c.requires.configured; shown = (k.0, k.1, k.2) }) c.requires.counted
    d.0 d.1 (g.met.D.Desk.none c.args.desk.now)

pub land_with_room-requires-clause-configured : goal.land_with_room-requires-clause-configured
land_with_room-requires-clause-configured g c =
    subst (IsConfigured (g.D.Desk.settings c.args.desk.now))
    (sym (c.count_turn.ensures.done c.if-not-count_turn.false).1)
    (recounted (g.D.Desk.settings c.args.desk.now) c.args.far.now
    (with_turn c.args.far.now.counts (job_index job.Land)) c.requires.configured)

pub land_with_room-requires-clause-kept : goal.land_with_room-requires-clause-kept
land_with_room-requires-clause-kept g c =
    let k = c.requires.kept in
    let is = (c.count_turn.ensures.done c.if-not-count_turn.false).1 in (
      k.0,
      k.1,
      counted_sound k.0 c.args.far.now c.count_turn.new.far job.Land is k.2,
      counted_kept k.0 c.args.far.now c.count_turn.new.far job.Land (done_order c.args.done) is k.3,
    )

pub returns-clause-turned : goal.returns-clause-turned
returns-clause-turned g c =
    let d = c.count_turn.ensures.done c.if-not-count_turn.false in
    land_turned g.D.Desk.run g.D.Desk.shows
    (g.D.Desk.settings c.args.desk.now) (holding c.args.desk.now c.args.far.now)
    (holding c.land_with_room.new.desk c.land_with_room.new.far) (done_order c.args.done)
    c.count_turn.new.far c.land_with_room.result d.0 d.1 c.land_with_room.ensures.lands

pub returns-clause-no_frame : goal.returns-clause-no_frame
returns-clause-no_frame g c =
    if_map (λ r. Never r) _ c.land_with_room.result c.land_with_room.ensures.lands
    (λ r x. room_never _ _ _ _ _ _ r x)

pub returns-clause-unavailable : goal.returns-clause-unavailable
returns-clause-unavailable g c =
    let d = c.count_turn.ensures.done c.if-not-count_turn.false in let k = c.requires.kept in
    lands_told g.D.Desk.run g.D.Desk.shows
    (g.D.Desk.settings c.args.desk.now) (holding c.args.desk.now c.args.far.now)
    (holding c.land_with_room.new.desk c.land_with_room.new.far) g.met.D.Desk.follows
    (done_order c.args.done) c.count_turn.new.far c.land_with_room.result d.1 (k.0, k.1, k.2)
    c.land_with_room.ensures.lands

pub returns-clause-error : goal.returns-clause-error
returns-clause-error g c =
    let d = c.count_turn.ensures.done c.if-not-count_turn.false in
    land_stopped g.D.Desk.run g.D.Desk.shows
    (g.D.Desk.settings c.args.desk.now) (holding c.args.desk.now c.args.far.now)
    (holding c.land_with_room.new.desk c.land_with_room.new.far) (done_order c.args.done)
    c.count_turn.new.far c.land_with_room.result d.0 d.1 c.land_with_room.ensures.error

pub returns-clause-leaves : goal.returns-clause-leaves
returns-clause-leaves g c =
    let d = c.count_turn.ensures.done c.if-not-count_turn.false in
    let laws = laws_of g.D.Desk.run g.D.Desk.shows g.met.D.Desk.none
    g.met.D.Desk.more g.met.D.Desk.follows in
    let k = c.requires.kept in
    land_outcome g.D.Desk.run g.D.Desk.shows
    (g.D.Desk.settings c.args.desk.now) (holding c.args.desk.now c.args.far.now)
    (holding c.land_with_room.new.desk c.land_with_room.new.far) laws c.requires.config
    (record { configured = c.requires.configured; shown = (k.0, k.1, k.2) }) c.requires.counted
    d.0 c.count_turn.new.far (done_order c.args.done) c.land_with_room.result d.1
    c.land_with_room.ensures.lands c.land_with_room.ensures.error
