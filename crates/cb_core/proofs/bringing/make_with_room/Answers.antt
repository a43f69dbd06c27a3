use Rattle.std.proofs.Common.{◌∙◌, refl, subst, sym}
use Rattle.cb_types.specs.declared.config.Config.{Config}
use Rattle.cb_types.specs.Config.{IsAccepted}
use Rattle.cb_core.specs.Parts.WithRoom.{at_once}
use Rattle.cb_core.specs.Parts.RoomStops.{at_once as lacks_at_once}
use Rattle.cb_core.specs.Turned.{MakeLacks, Makes, TriesRoom}
use Rattle.cb_core.proofs.Composing.{any_err, holding, makes_as, shown_after}
use Rattle.cb_core.proofs.Exits.{configured_as, make_lacks}
use Rattle.cb_core.proofs.PartsFar.{make_crammed}
use Rattle.cb_core.proofs.Winning.{few_drawn, room_lacks, room_refused, wins_more, wins_none}
use Rattle.cb_core.proofs.bringing.make_with_room.Goals as goal

pub loop-init : goal.loop-init
loop-init g c = wins_none g.D.Desk.run g.D.Desk.shows
    (λ d. g.D.Desk.settings d) (g.D.Desk.settings c.args.desk.now)
    (Makes g.D.Desk.run g.D.Desk.shows
    (g.D.Desk.settings c.args.desk.now) c.args.bytes.now)
    (MakeLacks g.D.Desk.run
    (g.D.Desk.settings c.args.desk.now) c.args.bytes.now)
    (holding c.args.desk.now c.args.far.now) c.requires.config refl c.requires.configured
    c.requires.sound

pub make-requires-clause-config : goal.make-requires-clause-config
make-requires-clause-config g c =
    subst IsAccepted (sym c.loop.invariant.desk_settings) c.requires.config

pub make-requires-clause-sound : goal.make-requires-clause-sound
make-requires-clause-sound g c = c.loop.invariant.shown

pub returns-in_err-reply-clause-error : goal.returns-in_err-reply-clause-error
returns-in_err-reply-clause-error g c = let w = c.loop.invariant in
    any_err _ c.from_residual.result (w.stops (holding c.make.new.desk c.make.new.far)
    (lacks_at_once (make_lacks g.D.Desk.run (g.D.Desk.settings c.args.desk.now)
    (g.D.Desk.settings c.loop.desk) c.args.bytes.now (holding c.loop.desk c.loop.far)
    (holding c.make.new.desk c.make.new.far) (λ d. g.met.D.Desk.none d) w.desk_settings
    c.in_err-reply.ensures.error)))

pub returns-then-not-is_no_frame-clause-makes : goal.returns-then-not-is_no_frame-clause-makes
returns-then-not-is_no_frame-clause-makes g c = let w = c.loop.invariant in
    w.goes c.in_ok-reply.reply (holding c.make.new.desk c.make.new.far)
    (at_once (makes_as g.D.Desk.run g.D.Desk.shows
    (g.D.Desk.settings c.args.desk.now) (g.D.Desk.settings c.loop.desk) c.args.bytes.now
    (holding c.loop.desk c.loop.far) (holding c.make.new.desk c.make.new.far) c.in_ok-reply.reply
    c.in_ok-reply.reply w.desk_settings refl c.in_ok-reply.ensures.make)
    (c.is_no_frame.ensures.other c.if-not-is_no_frame.true))

pub win_room-requires-clause-config : goal.win_room-requires-clause-config
win_room-requires-clause-config g c = let x = c.in_ok-reply.ensures.make in
    subst IsAccepted
    (sym (g.met.D.Desk.stays _ _ x.events x.ran ∙ c.loop.invariant.desk_settings)) c.requires.config

pub win_room-requires-clause-configured : goal.win_room-requires-clause-configured
win_room-requires-clause-configured g c =
    let x = c.in_ok-reply.ensures.make in let w = c.loop.invariant in
    configured_as _ _ c.loop.far c.make.new.far
    (g.met.D.Desk.stays _ _ x.events x.ran ∙ w.desk_settings)
    (make_crammed _ _ c.loop.far c.make.new.far c.in_ok-reply.reply x.events x.rule
    (c.is_no_frame.ensures.yes c.if-not-is_no_frame.false)).0 w.configured

pub win_room-requires-clause-counts : goal.win_room-requires-clause-counts
win_room-requires-clause-counts g c = let x = c.in_ok-reply.ensures.make in
    few_drawn g.D.Desk.run g.D.Desk.shows
    (λ d. g.D.Desk.settings d) (g.D.Desk.settings c.args.desk.now)
    (Makes g.D.Desk.run g.D.Desk.shows
    (g.D.Desk.settings c.args.desk.now) c.args.bytes.now)
    (MakeLacks g.D.Desk.run
    (g.D.Desk.settings c.args.desk.now) c.args.bytes.now)
    (holding c.args.desk.now c.args.far.now) (holding c.loop.desk c.loop.far)
    c.loop.counter c.loop.invariant c.requires.counts c.make.new.far
    (make_crammed _ _ c.loop.far c.make.new.far c.in_ok-reply.reply x.events x.rule
    (c.is_no_frame.ensures.yes c.if-not-is_no_frame.false)).0

pub win_room-requires-clause-sound : goal.win_room-requires-clause-sound
win_room-requires-clause-sound g c = shown_after _ _ _ _ _ _ _ c.in_ok-reply.ensures.make
    (λ es s ran a. (g.met.D.Desk.follows _ _ es s ran a).1) c.loop.invariant.shown

pub returns-in_err-refusal-clause-error : goal.returns-in_err-refusal-clause-error
returns-in_err-refusal-clause-error g c =
    let x = c.in_ok-reply.ensures.make in let w = c.loop.invariant in
    room_lacks g.D.Desk.run g.D.Desk.shows
    (λ d. g.D.Desk.settings d) (g.D.Desk.settings c.args.desk.now)
    (Makes g.D.Desk.run g.D.Desk.shows
    (g.D.Desk.settings c.args.desk.now) c.args.bytes.now)
    (MakeLacks g.D.Desk.run
    (g.D.Desk.settings c.args.desk.now) c.args.bytes.now)
    (holding c.args.desk.now c.args.far.now) (holding c.loop.desk c.loop.far)
    c.loop.counter w (holding c.make.new.desk c.make.new.far) c.in_ok-reply.reply
    (makes_as g.D.Desk.run g.D.Desk.shows
    (g.D.Desk.settings c.args.desk.now) (g.D.Desk.settings c.loop.desk) c.args.bytes.now
    (holding c.loop.desk c.loop.far) (holding c.make.new.desk c.make.new.far) c.in_ok-reply.reply
    c.in_ok-reply.reply w.desk_settings refl x)
    (c.is_no_frame.ensures.yes c.if-not-is_no_frame.false)
    (holding c.win_room.new.desk c.win_room.new.far) _
    c.from_residual-in_err-refusal.result c.in_err-refusal.ensures.error

pub returns-in-Some-clause-makes : goal.returns-in-Some-clause-makes
returns-in-Some-clause-makes g c =
    let x = c.in_ok-reply.ensures.make in let w = c.loop.invariant in
    room_refused g.D.Desk.run g.D.Desk.shows
    (λ d. g.D.Desk.settings d) (g.D.Desk.settings c.args.desk.now)
    (Makes g.D.Desk.run g.D.Desk.shows
    (g.D.Desk.settings c.args.desk.now) c.args.bytes.now)
    (MakeLacks g.D.Desk.run
    (g.D.Desk.settings c.args.desk.now) c.args.bytes.now)
    (holding c.args.desk.now c.args.far.now) (holding c.loop.desk c.loop.far)
    c.loop.counter w (holding c.make.new.desk c.make.new.far) c.in_ok-reply.reply
    (makes_as g.D.Desk.run g.D.Desk.shows
    (g.D.Desk.settings c.args.desk.now) (g.D.Desk.settings c.loop.desk) c.args.bytes.now
    (holding c.loop.desk c.loop.far) (holding c.make.new.desk c.make.new.far) c.in_ok-reply.reply
    c.in_ok-reply.reply w.desk_settings refl x)
    (c.is_no_frame.ensures.yes c.if-not-is_no_frame.false)
    (holding c.win_room.new.desk c.win_room.new.far) c.in_ok-refusal.field-0 c.in-Some.refusal
    (subst (λ (k : Config). TriesRoom g.D.Desk.run
    g.D.Desk.shows k (holding c.make.new.desk c.make.new.far)
    c.in_ok-refusal.field-0 (holding c.win_room.new.desk c.win_room.new.far))
    (g.met.D.Desk.stays _ _ x.events x.ran ∙ w.desk_settings) c.in_ok-refusal.ensures.tries)
    c.in-Some.is

pub loop-preserved : goal.loop-preserved
loop-preserved g c =
    let x = c.in_ok-reply.ensures.make in let w = c.loop.invariant in
    wins_more g.D.Desk.run g.D.Desk.shows
    (λ d. g.D.Desk.settings d) (g.D.Desk.settings c.args.desk.now)
    (Makes g.D.Desk.run g.D.Desk.shows
    (g.D.Desk.settings c.args.desk.now) c.args.bytes.now)
    (MakeLacks g.D.Desk.run
    (g.D.Desk.settings c.args.desk.now) c.args.bytes.now)
    (holding c.args.desk.now c.args.far.now) (holding c.loop.desk c.loop.far)
    c.loop.counter w (holding c.make.new.desk c.make.new.far) c.in_ok-reply.reply
    (makes_as g.D.Desk.run g.D.Desk.shows
    (g.D.Desk.settings c.args.desk.now) (g.D.Desk.settings c.loop.desk) c.args.bytes.now
    (holding c.loop.desk c.loop.far) (holding c.make.new.desk c.make.new.far) c.in_ok-reply.reply
    c.in_ok-reply.reply w.desk_settings refl x)
    (c.is_no_frame.ensures.yes c.if-not-is_no_frame.false)
    (λ d e es ran. g.met.D.Desk.stays d e es ran)
    (λ d e es s ran a. (g.met.D.Desk.follows d e es s ran a).1) c.requires.config
    (g.met.D.Desk.stays _ _ x.events x.ran ∙ w.desk_settings)
    (make_crammed _ _ c.loop.far c.make.new.far c.in_ok-reply.reply x.events x.rule
    (c.is_no_frame.ensures.yes c.if-not-is_no_frame.false)).0
    (shown_after _ _ _ _ _ _ _ x (λ es s ran a. (g.met.D.Desk.follows _ _ es s ran a).1) w.shown)
    (holding c.win_room.new.desk c.win_room.new.far) c.in_ok-refusal.field-0
    (subst (λ (k : Config). TriesRoom g.D.Desk.run
    g.D.Desk.shows k (holding c.make.new.desk c.make.new.far)
    c.in_ok-refusal.field-0 (holding c.win_room.new.desk c.win_room.new.far))
    (g.met.D.Desk.stays _ _ x.events x.ran ∙ w.desk_settings) c.in_ok-refusal.ensures.tries)
    c.in_default.is
