use Rattle.std.proofs.Common.{refl, sym, subst}
use Rattle.cb_types.specs.declared.reply.Reply.TheVariants as answer
use Rattle.cb_types.specs.Jobs.{job_index}
use Rattle.cb_world.specs.Pairs.{HoldsNoPair}
use Rattle.cb_world.specs.Counts.{with_turn}
use Rattle.cb_world.specs.World.{IsConfigured}
use Rattle.cb_world.proofs.Laws.{counted_holds, recounted}
use Rattle.cb_core.specs.Turned.{worn, Reads, ReadLacks}
use Rattle.cb_core.proofs.Composing.{holding, if_map}
use Rattle.cb_core.proofs.NoFrames.{Never, does_never, reads_never}
use Rattle.cb_core.proofs.Counting.{counted_sound, stopped, turned}
use Rattle.cb_core.proofs.TurnCarries.{reads}
use Rattle.cb_core.proofs.TurnLeft.{laws_of, outcome_leaves, turn_leaves}
use Rattle.cb_core.specs.Unavailable.{TurnTells}
use Rattle.cb_core.proofs.TurnUnavailable.{turned_tells}
use Rattle.cb_core.proofs.turning.turn.Goals as goal

pub work-requires-clause-sound : goal.work-requires-clause-sound
work-requires-clause-sound g c =
    let s = c.requires.sound in
    let is = (c.count_turn.ensures.done c.if-not-count_turn.false).1 in
    (s.0, s.1, counted_sound s.0 c.args.far.now c.count_turn.new.far c.args.job.now is s.2)

pub work-requires-clause-configured : goal.work-requires-clause-configured
work-requires-clause-configured g c =
    subst (IsConfigured (g.D.Desk.settings c.args.desk.now))
    (sym (c.count_turn.ensures.done c.if-not-count_turn.false).1)
    (recounted (g.D.Desk.settings c.args.desk.now) c.args.far.now
    (with_turn c.args.far.now.counts (job_index c.args.job.now)) c.requires.configured)

pub work-requires-clause-note : goal.work-requires-clause-note
work-requires-clause-note g c =
    subst HoldsNoPair (sym (c.count_turn.ensures.done c.if-not-count_turn.false).1)
    (counted_holds c.args.far.now (job_index c.args.job.now) c.requires.counted)

pub returns-clause-turned : goal.returns-clause-turned
returns-clause-turned g c =
    let d = c.count_turn.ensures.done c.if-not-count_turn.false in
    turned g.D.Desk.run g.D.Desk.shows
    (Reads g.D.Desk.run g.D.Desk.shows)
    (ReadLacks g.D.Desk.run g.D.Desk.shows)
    (g.D.Desk.settings c.args.desk.now) c.args.job.now (holding c.args.desk.now c.args.far.now) (holding c.work.new.desk c.work.new.far)
    c.work.result c.count_turn.new.far d.0 d.1 c.work.ensures.does

pub returns-clause-error : goal.returns-clause-error
returns-clause-error g c =
    let d = c.count_turn.ensures.done c.if-not-count_turn.false in
    stopped g.D.Desk.run g.D.Desk.shows
    (Reads g.D.Desk.run g.D.Desk.shows)
    (ReadLacks g.D.Desk.run g.D.Desk.shows)
    (g.D.Desk.settings c.args.desk.now) c.args.job.now (holding c.args.desk.now c.args.far.now) (holding c.work.new.desk c.work.new.far)
    c.work.result c.count_turn.new.far d.0 d.1 c.work.ensures.error

pub returns-then-not-count_turn-clause-leaves : goal.returns-then-not-count_turn-clause-leaves
returns-then-not-count_turn-clause-leaves g c =
    let d = c.count_turn.ensures.worn c.if-not-count_turn.true in
    let laws = laws_of g.D.Desk.run g.D.Desk.shows g.met.D.Desk.none
    g.met.D.Desk.more g.met.D.Desk.follows in
    turn_leaves g.D.Desk.run g.D.Desk.shows laws
    (g.D.Desk.settings c.args.desk.now) c.requires.config
    (Reads g.D.Desk.run g.D.Desk.shows)
    (reads g.D.Desk.run g.D.Desk.shows laws
    (g.D.Desk.settings c.args.desk.now) c.requires.config) c.args.job.now (holding c.args.desk.now c.args.far.now)
    (holding c.args.desk.now c.count_turn.new.far) answer.Worn c.requires.job
    (record { configured = c.requires.configured; shown = c.requires.sound }) c.requires.counted
    (worn d.0 refl d.1 (g.met.D.Desk.none c.args.desk.now))

pub returns-clause-leaves : goal.returns-clause-leaves
returns-clause-leaves g c =
    outcome_leaves g.D.Desk.run g.D.Desk.shows
    (laws_of g.D.Desk.run g.D.Desk.shows g.met.D.Desk.none
    g.met.D.Desk.more g.met.D.Desk.follows) (g.D.Desk.settings c.args.desk.now) c.requires.config
    c.args.job.now (holding c.args.desk.now c.args.far.now)
    (holding c.work.new.desk c.work.new.far) c.work.result c.requires.job
    (record { configured = c.requires.configured; shown = c.requires.sound }) c.requires.counted
    (returns-clause-turned g c) (returns-clause-error g c)

pub returns-then-not-count_turn-clause-unavailable : goal.returns-then-not-count_turn-clause-unavailable
returns-then-not-count_turn-clause-unavailable g c =
    let d = c.count_turn.ensures.worn c.if-not-count_turn.true in
    turned_tells g.D.Desk.run g.D.Desk.shows g.met.D.Desk.follows
    (g.D.Desk.settings c.args.desk.now) c.args.job.now (holding c.args.desk.now c.args.far.now)
    (holding c.args.desk.now c.count_turn.new.far) answer.Worn c.requires.sound
    (worn d.0 refl d.1 (g.met.D.Desk.none c.args.desk.now))

pub returns-clause-unavailable : goal.returns-clause-unavailable
returns-clause-unavailable g c =
    if_map (λ r. TurnTells c.args.job.now c.args.far.now r) _ c.work.result (returns-clause-turned g c)
    (λ r turned. turned_tells g.D.Desk.run g.D.Desk.shows
    g.met.D.Desk.follows (g.D.Desk.settings c.args.desk.now) c.args.job.now
    (holding c.args.desk.now c.args.far.now) (holding c.work.new.desk c.work.new.far) r
    c.requires.sound turned)

pub returns-clause-no_frame : goal.returns-clause-no_frame
returns-clause-no_frame g c =
    if_map (λ r. Never r) _ c.work.result c.work.ensures.does (λ r does.
    does_never g.D.Desk.run g.D.Desk.shows
    (Reads g.D.Desk.run g.D.Desk.shows)
    (reads_never g.D.Desk.run g.D.Desk.shows
    (g.D.Desk.settings c.args.desk.now)) (g.D.Desk.settings c.args.desk.now) c.args.job.now
    (holding c.args.desk.now c.count_turn.new.far) (holding c.work.new.desk c.work.new.far) r does)
