use Rattle.std.proofs.Common.{refl}
use Rattle.cb_types.specs.declared.job.Job.TheVariants as job
use Rattle.cb_types.specs.declared.reply.Reply.TheVariants as answer
use Rattle.cb_core.specs.Ordered.TurnedWith.{worn}
use Rattle.cb_core.proofs.Composing.{holding}
use Rattle.cb_core.proofs.Counting.{counted_sound}
use Rattle.cb_core.proofs.OrdersLeave.{worn_hands}
use Rattle.cb_core.proofs.OrderTurns.{fetch_outcome, fetch_stopped, fetch_turned, fetch_told}
use Rattle.cb_core.proofs.TurnLeft.{laws_of}
use Rattle.cb_core.proofs.TurnUnavailable.{worn_tells}
use Rattle.cb_core.proofs.fetching.fetch.Goals as goal

pub hand_rows-requires-clause-sound : goal.hand_rows-requires-clause-sound
hand_rows-requires-clause-sound g c =
    let s = c.requires.sound in
    let is = (c.count_turn.ensures.done c.if-not-count_turn.false).1 in
    (s.0, s.1, counted_sound s.0 c.args.far.now c.count_turn.new.far (job.Fetch c.args.h) is s.2)

pub returns-then-not-count_turn-clause-turned : goal.returns-then-not-count_turn-clause-turned
returns-then-not-count_turn-clause-turned g c =
    let d = c.count_turn.ensures.worn c.if-not-count_turn.true in
    λ order. worn d.0 refl refl d.1 (g.met.D.Desk.none c.args.desk.now)

pub returns-then-not-count_turn-clause-unavailable : goal.returns-then-not-count_turn-clause-unavailable
returns-then-not-count_turn-clause-unavailable g c =
    let d = c.count_turn.ensures.worn c.if-not-count_turn.true in
    worn_tells g.D.Desk.run g.D.Desk.shows g.met.D.Desk.follows
    (g.D.Desk.settings c.args.desk.now) (job.Fetch c.args.h) c.args.far.now answer.Worn d.0 refl

pub returns-then-not-count_turn-clause-leaves : goal.returns-then-not-count_turn-clause-leaves
returns-then-not-count_turn-clause-leaves g c =
    let d = c.count_turn.ensures.worn c.if-not-count_turn.true in
    let laws = laws_of g.D.Desk.run g.D.Desk.shows g.met.D.Desk.none
    g.met.D.Desk.more g.met.D.Desk.follows in
    worn_hands g.D.Desk.run g.D.Desk.shows laws
    (g.D.Desk.settings c.args.desk.now) c.requires.config
    (holding c.args.desk.now c.args.far.now) (holding c.args.desk.now c.count_turn.new.far)
    (record { configured = c.requires.configured; shown = c.requires.sound }) c.requires.counted
    d.0 d.1 (g.met.D.Desk.none c.args.desk.now)

pub returns-clause-turned : goal.returns-clause-turned
returns-clause-turned g c =
    let d = c.count_turn.ensures.done c.if-not-count_turn.false in
    fetch_turned g.D.Desk.run g.D.Desk.shows
    (g.D.Desk.settings c.args.desk.now) (holding c.args.desk.now c.args.far.now)
    (holding c.hand_rows.new.desk c.hand_rows.new.far) c.args.h c.count_turn.new.far
    c.hand_rows.result d.0 d.1 c.hand_rows.ensures.fetches

pub returns-clause-unavailable : goal.returns-clause-unavailable
returns-clause-unavailable g c =
    let d = c.count_turn.ensures.done c.if-not-count_turn.false in
    fetch_told g.D.Desk.run g.D.Desk.shows
    (g.D.Desk.settings c.args.desk.now) (holding c.args.desk.now c.args.far.now)
    (holding c.hand_rows.new.desk c.hand_rows.new.far) g.met.D.Desk.follows c.args.h
    c.count_turn.new.far c.hand_rows.result d.1 c.requires.sound c.hand_rows.ensures.fetches

pub returns-clause-error : goal.returns-clause-error
returns-clause-error g c =
    let d = c.count_turn.ensures.done c.if-not-count_turn.false in
    fetch_stopped g.D.Desk.run g.D.Desk.shows
    (g.D.Desk.settings c.args.desk.now) (holding c.args.desk.now c.args.far.now)
    (holding c.hand_rows.new.desk c.hand_rows.new.far) c.args.h c.count_turn.new.far
    c.hand_rows.result d.0 d.1 c.hand_rows.ensures.error

pub returns-clause-leaves : goal.returns-clause-leaves
returns-clause-leaves g c =
    let d = c.count_turn.ensures.done c.if-not-count_turn.false in
    let laws = laws_of g.D.Desk.run g.D.Desk.shows g.met.D.Desk.none
    g.met.D.Desk.more g.met.D.Desk.follows in
    fetch_outcome g.D.Desk.run g.D.Desk.shows
    (g.D.Desk.settings c.args.desk.now) (holding c.args.desk.now c.args.far.now)
    (holding c.hand_rows.new.desk c.hand_rows.new.far) laws c.requires.config
    (record { configured = c.requires.configured; shown = c.requires.sound }) c.requires.counted
    d.0 c.count_turn.new.far c.args.h c.hand_rows.result d.1 c.hand_rows.ensures.fetches
    c.hand_rows.ensures.error c.hand_rows.ensures.kept
