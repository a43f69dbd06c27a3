use Rattle.std.proofs.Common.{refl, sym, subst}
use Rattle.cb_types.specs.declared.job.Job.TheVariants.{Read}
use Rattle.cb_types.specs.declared.reply.Reply.TheVariants as answer
use Rattle.cb_types.specs.Jobs.{job_index}
use Rattle.cb_world.specs.Counts.{with_turn}
use Rattle.cb_world.specs.FarState.{FarState}
use Rattle.cb_world.specs.World.{IsConfigured}
use Rattle.cb_world.proofs.Laws.{recounted}
use Rattle.cb_core.specs.ReadTurn.BroughtToRead.{done, worn}
use Rattle.cb_core.specs.Turned.{ComeLacks, ComesIn}
use Rattle.cb_core.proofs.Composing.{err_map, holding, if_map}
use Rattle.cb_core.proofs.Counting.{counted_sound}
use Rattle.cb_core.proofs.NoFrames.{Never, comes_never}
use Rattle.cb_core.proofs.TurnLeft.{brought_leaves, first_leaves, laws_of}
use Rattle.cb_core.proofs.reading.bring_to_read.Goals as goal

pub swap_object-requires-clause-sound : goal.swap_object-requires-clause-sound
swap_object-requires-clause-sound g c =
    let s = c.requires.sound in
    let is = (c.count_turn.ensures.done c.if-not-count_turn.false).1 in
    (s.0, s.1, counted_sound s.0 c.args.far.now c.count_turn.new.far (Read c.args.h) is s.2)

pub swap_object-requires-clause-configured : goal.swap_object-requires-clause-configured
swap_object-requires-clause-configured g c =
    subst (IsConfigured (g.D.Desk.settings c.args.desk.now))
    (sym (c.count_turn.ensures.done c.if-not-count_turn.false).1)
    (recounted (g.D.Desk.settings c.args.desk.now) c.args.far.now
    (with_turn c.args.far.now.counts (job_index (Read c.args.h))) c.requires.configured)

pub returns-clause-brought : goal.returns-clause-brought
returns-clause-brought g c =
    let d = c.count_turn.ensures.done c.if-not-count_turn.false in
    if_map _ _ c.swap_object.result c.swap_object.ensures.comes (λ r come. done d.0
    (subst (λ (f : FarState). ComesIn g.D.Desk.run g.D.Desk.shows
    (g.D.Desk.settings c.args.desk.now) c.args.h.n (holding c.args.desk.now f) r
    (holding c.swap_object.new.desk c.swap_object.new.far)) d.1 come))

pub returns-clause-error : goal.returns-clause-error
returns-clause-error g c =
    let d = c.count_turn.ensures.done c.if-not-count_turn.false in
    err_map _ _ c.swap_object.result c.swap_object.ensures.error (λ lacks. record {
      few = d.0;
      stops = subst (λ (f : FarState). ComeLacks g.D.Desk.run
          g.D.Desk.shows (g.D.Desk.settings c.args.desk.now) c.args.h.n
          (holding c.args.desk.now f) (holding c.swap_object.new.desk c.swap_object.new.far)) d.1 lacks;
    })

pub returns-clause-no_frame : goal.returns-clause-no_frame
returns-clause-no_frame g c =
    if_map (λ r. Never r) _ c.swap_object.result c.swap_object.ensures.comes (λ r come.
    comes_never g.D.Desk.run g.D.Desk.shows
    (g.D.Desk.settings c.args.desk.now) c.args.h.n (holding c.args.desk.now c.count_turn.new.far)
    (holding c.swap_object.new.desk c.swap_object.new.far) r come)

pub returns-then-not-count_turn-clause-leaves : goal.returns-then-not-count_turn-clause-leaves
returns-then-not-count_turn-clause-leaves g c =
    let d = c.count_turn.ensures.worn c.if-not-count_turn.true in
    first_leaves g.D.Desk.run g.D.Desk.shows
    (laws_of g.D.Desk.run g.D.Desk.shows g.met.D.Desk.none
    g.met.D.Desk.more g.met.D.Desk.follows) (g.D.Desk.settings c.args.desk.now) c.requires.config
    c.args.h (holding c.args.desk.now c.args.far.now) (holding c.args.desk.now c.count_turn.new.far)
    answer.Worn (record { configured = c.requires.configured; shown = c.requires.sound })
    c.requires.counted (worn d.0 refl d.1 (g.met.D.Desk.none c.args.desk.now))

pub returns-clause-leaves : goal.returns-clause-leaves
returns-clause-leaves g c =
    brought_leaves g.D.Desk.run g.D.Desk.shows
    (laws_of g.D.Desk.run g.D.Desk.shows g.met.D.Desk.none
    g.met.D.Desk.more g.met.D.Desk.follows) (g.D.Desk.settings c.args.desk.now) c.requires.config
    c.args.h (holding c.args.desk.now c.args.far.now)
    (holding c.swap_object.new.desk c.swap_object.new.far) c.swap_object.result
    (record { configured = c.requires.configured; shown = c.requires.sound }) c.requires.counted
    (returns-clause-brought g c) (returns-clause-error g c)
