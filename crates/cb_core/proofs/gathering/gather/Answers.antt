use Rattle.std.proofs.Common.{refl, sym, subst}
use Rattle.cb_types.specs.declared.job.Job.TheVariants.{Gather}
use Rattle.cb_types.specs.Jobs.{job_index}
use Rattle.cb_world.specs.Counts.{with_turn}
use Rattle.cb_world.specs.World.{IsConfigured}
use Rattle.cb_world.proofs.Laws.{recounted}
use Rattle.cb_core.specs.Ordered.TurnedWith.{worn}
use Rattle.cb_core.proofs.Composing.{holding}
use Rattle.cb_core.proofs.Counting.{counted_sound}
use Rattle.cb_core.proofs.OrdersLeave.{worn_hands}
use Rattle.cb_core.proofs.OrderTurns.{gather_outcome, gather_stopped, gather_turned, lacks_both}
use Rattle.cb_core.proofs.TurnLeft.{laws_of}
use Rattle.cb_core.proofs.gathering.gather.Goals as goal

pub gather-requires-clause-sound : goal.gather-requires-clause-sound
gather-requires-clause-sound g c =
    let s = c.requires.sound in
    let is = (c.count_turn.ensures.done c.if-not-count_turn.false).1 in
    (s.0, s.1, counted_sound s.0 c.args.far.now c.count_turn.new.far Gather is s.2)

pub gather-requires-clause-configured : goal.gather-requires-clause-configured
gather-requires-clause-configured g c =
    subst (IsConfigured (g.D.Desk.settings c.args.desk.now))
    (sym (c.count_turn.ensures.done c.if-not-count_turn.false).1)
    (recounted (g.D.Desk.settings c.args.desk.now) c.args.far.now
    (with_turn c.args.far.now.counts (job_index Gather)) c.requires.configured)

pub returns-then-not-count_turn-clause-turned : goal.returns-then-not-count_turn-clause-turned
returns-then-not-count_turn-clause-turned g c =
    let d = c.count_turn.ensures.worn c.if-not-count_turn.true in
    λ order. worn d.0 refl refl d.1 (g.met.D.Desk.none c.args.desk.now)

pub returns-then-not-count_turn-clause-leaves : goal.returns-then-not-count_turn-clause-leaves
returns-then-not-count_turn-clause-leaves g c =
    let d = c.count_turn.ensures.worn c.if-not-count_turn.true in
    let laws = laws_of g.D.Desk.run g.D.Desk.shows g.met.D.Desk.none
    g.met.D.Desk.more g.met.D.Desk.follows in
    worn_hands g.D.Desk.run g.D.Desk.shows laws
    (g.D.Desk.settings c.args.desk.now) c.requires.config
    (holding c.args.desk.now c.args.far.now) (holding c.args.desk.now c.count_turn.new.far)
    (record { configured = c.requires.configured; shown = c.requires.sound }) c.requires.counted
    d.0 d.1 (g.met.D.Desk.none c.args.desk.now)

pub returns-clause-turned : goal.returns-clause-turned
returns-clause-turned g c =
    let d = c.count_turn.ensures.done c.if-not-count_turn.false in
    gather_turned g.D.Desk.run g.D.Desk.shows
    (g.D.Desk.settings c.args.desk.now) (holding c.args.desk.now c.args.far.now)
    (holding c.gather.new.desk c.gather.new.far) c.count_turn.new.far c.gather.result d.0 d.1
    c.gather.ensures.gathered

pub returns-clause-error : goal.returns-clause-error
returns-clause-error g c =
    let d = c.count_turn.ensures.done c.if-not-count_turn.false in
    gather_stopped g.D.Desk.run g.D.Desk.shows
    (g.D.Desk.settings c.args.desk.now) (holding c.args.desk.now c.args.far.now)
    (holding c.gather.new.desk c.gather.new.far) c.count_turn.new.far c.gather.result d.0 d.1
    (lacks_both g.D.Desk.run g.D.Desk.shows
    (g.D.Desk.settings c.args.desk.now) (holding c.args.desk.now c.args.far.now)
    (holding c.gather.new.desk c.gather.new.far) c.count_turn.new.far _ c.gather.result _
    c.gather.ensures.error c.gather.ensures.unchanged)

pub returns-clause-leaves : goal.returns-clause-leaves
returns-clause-leaves g c =
    let d = c.count_turn.ensures.done c.if-not-count_turn.false in
    let laws = laws_of g.D.Desk.run g.D.Desk.shows g.met.D.Desk.none
    g.met.D.Desk.more g.met.D.Desk.follows in
    gather_outcome g.D.Desk.run g.D.Desk.shows
    (g.D.Desk.settings c.args.desk.now) (holding c.args.desk.now c.args.far.now)
    (holding c.gather.new.desk c.gather.new.far) laws c.requires.config
    (record { configured = c.requires.configured; shown = c.requires.sound }) c.requires.counted
    d.0 c.count_turn.new.far c.gather.result d.1 c.gather.ensures.gathered
    (lacks_both g.D.Desk.run g.D.Desk.shows
    (g.D.Desk.settings c.args.desk.now) (holding c.args.desk.now c.args.far.now)
    (holding c.gather.new.desk c.gather.new.far) c.count_turn.new.far _ c.gather.result _
    c.gather.ensures.error c.gather.ensures.unchanged)
