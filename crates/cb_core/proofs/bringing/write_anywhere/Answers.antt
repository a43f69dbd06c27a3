use Rattle.std.proofs.Common.{sym, ◌∙◌, subst, ◌≡◌, ◌+◌, ◌<◌, ◌^◌, true≢false, Result, Ok, Err, Some, length}
use Rattle.std.specs.Result.{IsOk, OnErr}
use Rattle.std.proofs.lemmas.Result.{IfOk-from_err}
use Rattle.cb_types.specs.declared.config.Config.{Config}
use Rattle.cb_member.specs.declared.no_memory.NoMemory.{NoMemory}
use Rattle.cb_types.specs.Config.{IsAccepted}
use Rattle.cb_types.specs.declared.reply.Reply.{Reply}
use Rattle.cb_world.specs.declared.homes.Home.{Home}
use Rattle.cb_world.specs.FarState.{FarState}
use Rattle.cb_world.specs.Homes.{home_at}
use Rattle.cb_core.specs.Parts.{NeverLacks}
use Rattle.cb_core.specs.Turned.{BringLacks, Brings, Declines, WritesObject}
use Rattle.cb_core.proofs.Composing.{bring_lacks_as, brings_as, far_comes, far_kept, far_kept_if, far_stays, far_stops, holding, is_declined, shown_after}
use Rattle.cb_core.proofs.DeclinedLooks.{away_after}
use Rattle.cb_core.proofs.Exits.{configured_as, is_near}
use Rattle.cb_core.proofs.PartsFar.{far_has_home}
use Rattle.cb_core.proofs.bringing.write_anywhere.Goals as goal

-- a call that always finds memory
never : (P : Type 0) (r : Result Reply NoMemory) → IsOk r → OnErr r P
never P (Ok q) ok = tt
never P (Err e) ok = absurd (true≢false (sym ok))

pub decline-requires-clause-sound : goal.decline-requires-clause-sound
decline-requires-clause-sound g c =
    shown_after _ _ _ _ _ _ _ c.in_ok-reply.ensures.write
    (λ es s ran a. (g.met.D.Desk.follows _ _ es s ran a).1) c.requires.sound

pub decline-requires-clause-away : goal.decline-requires-clause-away
decline-requires-clause-away g c =
    let far = c.is_not_here.ensures.yes c.if-not-is_not_here.false in
    away_after _ _ _ _ _ c.args.h.n c.args.at c.args.bytes.now c.in_ok-reply.reply
    c.in_ok-reply.ensures.write far
    (λ es s ran a. (g.met.D.Desk.follows _ _ es s ran a).1) c.requires.sound
    (c.in_ok-reply.ensures.away far)

pub returns-in-Some-clause-writes : goal.returns-in-Some-clause-writes
returns-in-Some-clause-writes g c =
    let x = c.in_ok-reply.ensures.write in
    is_declined (WritesObject g.D.Desk.run g.D.Desk.shows c.args.h.n c.args.at c.args.bytes.now) (Declines g.D.Desk.run g.D.Desk.shows c.args.h.n c.args.at
    (length c.args.bytes.now)) (Brings g.D.Desk.run g.D.Desk.shows (g.D.Desk.settings c.args.desk.now) c.args.h.n)
    (holding c.args.desk.now c.args.far.now) (holding c.write.new.desk c.write.new.far)
    (holding c.decline.new.desk c.write.new.far) c.in_ok-reply.reply c.in-Some.refusal
    (far_kept _ _ _ _ _ _ _ x c.in_ok-reply.ensures.far)
    (c.is_not_here.ensures.yes c.if-not-is_not_here.false) c.in-Some.ensures.declines

pub bring-requires-clause-home : goal.bring-requires-clause-home
bring-requires-clause-home g c =
    let s = c.requires.sound in
    subst (λ (f : FarState). (home : Home) × (home_at f.homes c.args.h.n ≡ Some home))
    (sym c.in_ok-reply.ensures.far)
    (far_has_home s.0 c.args.far.now c.args.h.n s.2 (c.in_ok-reply.ensures.away
    (c.is_not_here.ensures.yes c.if-not-is_not_here.false) s.0 s.1))

pub bring-requires-clause-sound : goal.bring-requires-clause-sound
bring-requires-clause-sound g c =
    shown_after _ _ _ _ _ _ _ c.in_default.ensures.declines.1
    (λ es s ran a. (g.met.D.Desk.follows _ _ es s ran a).1)
    (shown_after _ _ _ _ _ _ _ c.in_ok-reply.ensures.write
    (λ es s ran a. (g.met.D.Desk.follows _ _ es s ran a).1) c.requires.sound)

pub returns-in_err-came-clause-error : goal.returns-in_err-came-clause-error
returns-in_err-came-clause-error g c =
    let x = c.in_ok-reply.ensures.write in let d = c.in_default.ensures.declines.1 in
    far_stops (WritesObject g.D.Desk.run g.D.Desk.shows c.args.h.n c.args.at c.args.bytes.now) (Declines g.D.Desk.run g.D.Desk.shows c.args.h.n c.args.at
    (length c.args.bytes.now)) (Brings g.D.Desk.run g.D.Desk.shows (g.D.Desk.settings c.args.desk.now) c.args.h.n)
    (holding c.args.desk.now c.args.far.now) (holding c.write.new.desk c.write.new.far)
    (holding c.decline.new.desk c.write.new.far) c.in_ok-reply.reply
    (far_kept _ _ _ _ _ _ _ x c.in_ok-reply.ensures.far)
    (c.is_not_here.ensures.yes c.if-not-is_not_here.false) c.in_default.ensures.declines NeverLacks (BringLacks g.D.Desk.run g.D.Desk.shows (g.D.Desk.settings c.args.desk.now) c.args.h.n)
    (holding c.bring.new.desk c.bring.new.far) c.from_residual-in_err-came.result
    (bring_lacks_as g.D.Desk.run g.D.Desk.shows (g.D.Desk.settings c.args.desk.now) (g.D.Desk.settings c.decline.new.desk) c.args.h.n
    (holding c.decline.new.desk c.write.new.far) (holding c.bring.new.desk c.bring.new.far)
    (g.met.D.Desk.stays _ _ d.events d.ran ∙ g.met.D.Desk.stays _ _ x.events x.ran) c.in_err-came.ensures.error)

pub returns-then-not-is_swapped-clause-writes : goal.returns-then-not-is_swapped-clause-writes
returns-then-not-is_swapped-clause-writes g c =
    let x = c.in_ok-reply.ensures.write in let d = c.in_default.ensures.declines.1 in
    far_stays (WritesObject g.D.Desk.run g.D.Desk.shows c.args.h.n c.args.at c.args.bytes.now) (Declines g.D.Desk.run g.D.Desk.shows c.args.h.n c.args.at
    (length c.args.bytes.now)) (Brings g.D.Desk.run g.D.Desk.shows (g.D.Desk.settings c.args.desk.now) c.args.h.n)
    (holding c.args.desk.now c.args.far.now) (holding c.write.new.desk c.write.new.far)
    (holding c.decline.new.desk c.write.new.far) c.in_ok-reply.reply
    (far_kept _ _ _ _ _ _ _ x c.in_ok-reply.ensures.far)
    (c.is_not_here.ensures.yes c.if-not-is_not_here.false) c.in_default.ensures.declines
    (holding c.bring.new.desk c.bring.new.far) c.in_ok-came.came
    (brings_as g.D.Desk.run g.D.Desk.shows (g.D.Desk.settings c.args.desk.now) (g.D.Desk.settings c.decline.new.desk) c.args.h.n
    (holding c.decline.new.desk c.write.new.far) (holding c.bring.new.desk c.bring.new.far)
    c.in_ok-came.came (g.met.D.Desk.stays _ _ d.events d.ran ∙ g.met.D.Desk.stays _ _ x.events x.ran) c.in_ok-came.ensures.brings)
    (c.is_swapped.ensures.other c.if-not-is_swapped.true)

pub write-requires-2-clause-config : goal.write-requires-2-clause-config
write-requires-2-clause-config g c =
    let x = c.in_ok-reply.ensures.write in let d = c.in_default.ensures.declines.1 in
    subst IsAccepted (sym (c.in_ok-came.ensures.settings ∙ (g.met.D.Desk.stays _ _ d.events d.ran ∙ g.met.D.Desk.stays _ _ x.events x.ran)))
    c.requires.config

pub returns-clause-writes : goal.returns-clause-writes
returns-clause-writes g c =
    let x = c.in_ok-reply.ensures.write in let d = c.in_default.ensures.declines.1 in
    let is = c.is_swapped.ensures.yes c.if-not-is_swapped.false in
    far_comes (WritesObject g.D.Desk.run g.D.Desk.shows c.args.h.n c.args.at c.args.bytes.now) (Declines g.D.Desk.run g.D.Desk.shows c.args.h.n c.args.at
    (length c.args.bytes.now)) (Brings g.D.Desk.run g.D.Desk.shows (g.D.Desk.settings c.args.desk.now) c.args.h.n)
    (holding c.args.desk.now c.args.far.now) (holding c.write.new.desk c.write.new.far)
    (holding c.decline.new.desk c.write.new.far) c.in_ok-reply.reply
    (far_kept _ _ _ _ _ _ _ x c.in_ok-reply.ensures.far)
    (c.is_not_here.ensures.yes c.if-not-is_not_here.false) c.in_default.ensures.declines
    (holding c.bring.new.desk c.bring.new.far) (holding c.write-2.new.desk c.write-2.new.far)
    c.in_ok-came.came is.0 c.write-2.result
    (brings_as g.D.Desk.run g.D.Desk.shows (g.D.Desk.settings c.args.desk.now) (g.D.Desk.settings c.decline.new.desk) c.args.h.n
    (holding c.decline.new.desk c.write.new.far) (holding c.bring.new.desk c.bring.new.far)
    c.in_ok-came.came (g.met.D.Desk.stays _ _ d.events d.ran ∙ g.met.D.Desk.stays _ _ x.events x.ran) c.in_ok-came.ensures.brings)
    is.1 (far_kept_if _ _ _ _ _ _ _ c.write-2.result c.write-2.ensures.write c.write-2.ensures.far)

pub returns-then-not-is_not_here-clause-writes : goal.returns-then-not-is_not_here-clause-writes
returns-then-not-is_not_here-clause-writes g c =
    is_near (WritesObject g.D.Desk.run g.D.Desk.shows c.args.h.n c.args.at c.args.bytes.now) (Declines g.D.Desk.run g.D.Desk.shows c.args.h.n c.args.at
    (length c.args.bytes.now))
    (Brings g.D.Desk.run g.D.Desk.shows (g.D.Desk.settings c.args.desk.now) c.args.h.n)
    (holding c.args.desk.now c.args.far.now) (holding c.write.new.desk c.write.new.far)
    c.in_ok-reply.reply (far_kept _ _ _ _ _ _ _ c.in_ok-reply.ensures.write c.in_ok-reply.ensures.far)
    (c.is_not_here.ensures.other c.if-not-is_not_here.true)

pub returns-in_err-reply-clause-writes : goal.returns-in_err-reply-clause-writes
returns-in_err-reply-clause-writes g c =
    IfOk-from_err c.from_residual.result _ c.from_residual.ensures.0

pub decline-requires-clause-handle : goal.decline-requires-clause-handle
decline-requires-clause-handle g c =
    let x = c.in_ok-reply.ensures.write in
    subst (λ (k : Config). c.args.h.n < k.handles) (sym (g.met.D.Desk.stays _ _ x.events x.ran))
    c.requires.handle

pub bring-requires-clause-handle : goal.bring-requires-clause-handle
bring-requires-clause-handle g c =
    let x = c.in_ok-reply.ensures.write in let d = c.in_default.ensures.declines.1 in
    subst (λ (k : Config). c.args.h.n < k.handles)
    (sym (g.met.D.Desk.stays _ _ d.events d.ran ∙ g.met.D.Desk.stays _ _ x.events x.ran))
    c.requires.handle

pub bring-requires-clause-config : goal.bring-requires-clause-config
bring-requires-clause-config g c =
    let x = c.in_ok-reply.ensures.write in let d = c.in_default.ensures.declines.1 in
    subst IsAccepted
    (sym (g.met.D.Desk.stays _ _ d.events d.ran ∙ g.met.D.Desk.stays _ _ x.events x.ran))
    c.requires.config

pub bring-requires-clause-configured : goal.bring-requires-clause-configured
bring-requires-clause-configured g c =
    let x = c.in_ok-reply.ensures.write in let d = c.in_default.ensures.declines.1 in
    configured_as _ _ c.args.far.now c.write.new.far
    (g.met.D.Desk.stays _ _ d.events d.ran ∙ g.met.D.Desk.stays _ _ x.events x.ran)
    c.in_ok-reply.ensures.far c.requires.configured

pub bring-requires-clause-counts : goal.bring-requires-clause-counts
bring-requires-clause-counts g c =
    subst (λ (f : FarState). (f.counts.sets + 2 ^ 18 < 2 ^ 62) × (f.counts.keys + 2 ^ 18 < 2 ^ 62))
    (sym c.in_ok-reply.ensures.far) c.requires.counts

pub bring-requires-clause-given : goal.bring-requires-clause-given
bring-requires-clause-given g c =
    subst (λ (f : FarState). f.nodes.given + 16 < 2 ^ 64) (sym c.in_ok-reply.ensures.far)
    c.requires.given

pub returns-in_err-came-clause-writes : goal.returns-in_err-came-clause-writes
returns-in_err-came-clause-writes g c =
    IfOk-from_err c.from_residual-in_err-came.result _ c.from_residual-in_err-came.ensures.0

pub write-requires-2-clause-handle : goal.write-requires-2-clause-handle
write-requires-2-clause-handle g c =
    let x = c.in_ok-reply.ensures.write in let d = c.in_default.ensures.declines.1 in
    subst (λ (k : Config). c.args.h.n < k.handles)
    (sym (c.in_ok-came.ensures.settings
    ∙ (g.met.D.Desk.stays _ _ d.events d.ran ∙ g.met.D.Desk.stays _ _ x.events x.ran)))
    c.requires.handle

pub write-requires-2-clause-sound : goal.write-requires-2-clause-sound
write-requires-2-clause-sound g c = c.in_ok-came.ensures.sound

pub returns-in_err-reply-clause-error : goal.returns-in_err-reply-clause-error
returns-in_err-reply-clause-error g c =
    absurd (true≢false (sym c.in_err-reply.ensures.memory))

pub returns-clause-error : goal.returns-clause-error
returns-clause-error g c = never _ c.write-2.result c.write-2.ensures.memory
