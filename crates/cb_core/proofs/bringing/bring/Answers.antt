use Rattle.std.proofs.Common.{◌+◌, ◌<◌, ◌^◌, ◌∙◌, ℕ, ap, refl, subst, sym}
use Rattle.cb_types.specs.declared.config.Config.{Config}
use Rattle.cb_types.specs.Config.{IsAccepted}
use Rattle.cb_world.specs.FarState.{FarState}
use Rattle.cb_world.specs.Homes.{home_at}
use Rattle.cb_core.specs.Parts.WithRoom.{at_once}
use Rattle.cb_core.specs.Parts.RoomStops.{at_once as lacks_at_once}
use Rattle.cb_core.specs.Turned.{SwapLacks, Swaps, TriesRoom}
use Rattle.cb_core.proofs.Composing.{any_err, holding, shown_after, swap_lacks}
use Rattle.cb_core.proofs.Exits.{configured_as}
use Rattle.cb_core.proofs.PartsFar.{live_home, swap_crammed}
use Rattle.cb_core.proofs.Winning.{few_drawn, room_lacks, room_refused, wins_more, wins_none}
use Rattle.cb_core.proofs.bringing.bring.Goals as goal

pub loop-init : goal.loop-init
loop-init g c = wins_none g.D.Desk.run g.D.Desk.shows
    (λ d. g.D.Desk.settings d) (g.D.Desk.settings c.args.desk.now)
    (Swaps g.D.Desk.run g.D.Desk.shows c.args.h.n)
    (SwapLacks g.D.Desk.run c.args.h.n)
    (holding c.args.desk.now c.args.far.now) c.requires.config refl c.requires.configured
    c.requires.sound

pub swap_in-requires-clause-config : goal.swap_in-requires-clause-config
swap_in-requires-clause-config g c =
    subst IsAccepted (sym c.loop.invariant.desk_settings) c.requires.config

pub swap_in-requires-clause-live : goal.swap_in-requires-clause-live
swap_in-requires-clause-live g c =
    let at = ap (λ (q : FarState). home_at q.homes c.args.h.n) (sym c.far.view_is)
    ∙ sym c.at.ensures.home ∙ c.unwrap-home.ensures in
    let w = c.loop.invariant in
    live_home w.shown.0 c.loop.far c.args.h.n c.unwrap-home.result w.shown.2
    (w.homes c.args.h.n c.unwrap-home.result at)

pub swap_in-requires-clause-sound : goal.swap_in-requires-clause-sound
swap_in-requires-clause-sound g c = c.loop.invariant.shown

pub swap_in-requires-clause-given : goal.swap_in-requires-clause-given
swap_in-requires-clause-given g c =
    subst (λ (n : ℕ). n + 16 < 2 ^ 64) (sym c.loop.invariant.given) c.requires.given

pub returns-in_err-swapped-clause-error : goal.returns-in_err-swapped-clause-error
returns-in_err-swapped-clause-error g c =
    let at = ap (λ (q : FarState). home_at q.homes c.args.h.n) (sym c.far.view_is)
    ∙ sym c.at.ensures.home ∙ c.unwrap-home.ensures in
    let w = c.loop.invariant in
    any_err _ c.from_residual.result (w.stops (holding c.swap_in.new.desk c.swap_in.new.far)
    (lacks_at_once (swap_lacks g.D.Desk.run g.D.Desk.shows
    c.args.h.n
    c.unwrap-home.result (holding c.loop.desk c.loop.far)
    (holding c.swap_in.new.desk c.swap_in.new.far)
    (λ d. g.met.D.Desk.none d) w.shown (w.homes c.args.h.n c.unwrap-home.result at)
    c.in_err-swapped.ensures.desk c.in_err-swapped.ensures.far)))

pub returns-in_err-swapped-clause-settings : goal.returns-in_err-swapped-clause-settings
returns-in_err-swapped-clause-settings g c =
    ap (λ d. g.D.Desk.settings d) c.in_err-swapped.ensures.desk ∙ c.loop.invariant.desk_settings

pub returns-then-not-is_no_frame-clause-brings : goal.returns-then-not-is_no_frame-clause-brings
returns-then-not-is_no_frame-clause-brings g c =
    let at = ap (λ (q : FarState). home_at q.homes c.args.h.n) (sym c.far.view_is)
    ∙ sym c.at.ensures.home ∙ c.unwrap-home.ensures in
    let x = c.in_ok-swapped.ensures.swap in let w = c.loop.invariant in
    w.goes c.in_ok-swapped.swapped (holding c.swap_in.new.desk c.swap_in.new.far)
    (at_once (c.unwrap-home.result, w.homes c.args.h.n c.unwrap-home.result at, x)
    (c.is_no_frame.ensures.other c.if-not-is_no_frame.true))

pub returns-then-not-is_no_frame-clause-settings : goal.returns-then-not-is_no_frame-clause-settings
returns-then-not-is_no_frame-clause-settings g c = let x = c.in_ok-swapped.ensures.swap in
    g.met.D.Desk.stays _ _ x.events x.ran ∙ c.loop.invariant.desk_settings

pub returns-then-not-is_no_frame-clause-sound : goal.returns-then-not-is_no_frame-clause-sound
returns-then-not-is_no_frame-clause-sound g c =
    shown_after _ _ _ _ _ _ _ c.in_ok-swapped.ensures.swap
    (λ es s ran a. (g.met.D.Desk.follows _ _ es s ran a).1) c.loop.invariant.shown

pub win_room-requires-clause-config : goal.win_room-requires-clause-config
win_room-requires-clause-config g c = let x = c.in_ok-swapped.ensures.swap in
    subst IsAccepted
    (sym (g.met.D.Desk.stays _ _ x.events x.ran ∙ c.loop.invariant.desk_settings)) c.requires.config

pub win_room-requires-clause-configured : goal.win_room-requires-clause-configured
win_room-requires-clause-configured g c =
    let x = c.in_ok-swapped.ensures.swap in let w = c.loop.invariant in
    configured_as _ _ c.loop.far c.swap_in.new.far
    (g.met.D.Desk.stays _ _ x.events x.ran ∙ w.desk_settings)
    (swap_crammed _ _ c.loop.far c.swap_in.new.far c.in_ok-swapped.swapped x.events x.rule
    (c.is_no_frame.ensures.yes c.if-not-is_no_frame.false)).0 w.configured

pub win_room-requires-clause-counts : goal.win_room-requires-clause-counts
win_room-requires-clause-counts g c = let x = c.in_ok-swapped.ensures.swap in
    few_drawn g.D.Desk.run g.D.Desk.shows
    (λ d. g.D.Desk.settings d) (g.D.Desk.settings c.args.desk.now)
    (Swaps g.D.Desk.run g.D.Desk.shows c.args.h.n)
    (SwapLacks g.D.Desk.run c.args.h.n)
    (holding c.args.desk.now c.args.far.now) (holding c.loop.desk c.loop.far)
    c.loop.counter c.loop.invariant c.requires.counts c.swap_in.new.far
    (swap_crammed _ _ c.loop.far c.swap_in.new.far c.in_ok-swapped.swapped x.events x.rule
    (c.is_no_frame.ensures.yes c.if-not-is_no_frame.false)).0

pub win_room-requires-clause-sound : goal.win_room-requires-clause-sound
win_room-requires-clause-sound g c = shown_after _ _ _ _ _ _ _ c.in_ok-swapped.ensures.swap
    (λ es s ran a. (g.met.D.Desk.follows _ _ es s ran a).1) c.loop.invariant.shown

pub returns-in_err-refusal-clause-error : goal.returns-in_err-refusal-clause-error
returns-in_err-refusal-clause-error g c =
    let at = ap (λ (q : FarState). home_at q.homes c.args.h.n) (sym c.far.view_is)
    ∙ sym c.at.ensures.home ∙ c.unwrap-home.ensures in
    let x = c.in_ok-swapped.ensures.swap in let w = c.loop.invariant in
    room_lacks g.D.Desk.run g.D.Desk.shows
    (λ d. g.D.Desk.settings d) (g.D.Desk.settings c.args.desk.now)
    (Swaps g.D.Desk.run g.D.Desk.shows c.args.h.n)
    (SwapLacks g.D.Desk.run c.args.h.n)
    (holding c.args.desk.now c.args.far.now) (holding c.loop.desk c.loop.far)
    c.loop.counter w (holding c.swap_in.new.desk c.swap_in.new.far) c.in_ok-swapped.swapped
    (c.unwrap-home.result, w.homes c.args.h.n c.unwrap-home.result at, x)
    (c.is_no_frame.ensures.yes c.if-not-is_no_frame.false)
    (holding c.win_room.new.desk c.win_room.new.far) _
    c.from_residual-in_err-refusal.result c.in_err-refusal.ensures.error

pub returns-in_err-refusal-clause-settings : goal.returns-in_err-refusal-clause-settings
returns-in_err-refusal-clause-settings g c =
    let x = c.in_ok-swapped.ensures.swap in let w = c.loop.invariant in
    let y = c.in_err-refusal.ensures.error.1 in
    g.met.D.Desk.stays _ _ y.events y.ran
    ∙ (g.met.D.Desk.stays _ _ x.events x.ran ∙ w.desk_settings)

pub returns-in-Some-clause-brings : goal.returns-in-Some-clause-brings
returns-in-Some-clause-brings g c =
    let at = ap (λ (q : FarState). home_at q.homes c.args.h.n) (sym c.far.view_is)
    ∙ sym c.at.ensures.home ∙ c.unwrap-home.ensures in
    let x = c.in_ok-swapped.ensures.swap in let w = c.loop.invariant in
    room_refused g.D.Desk.run g.D.Desk.shows
    (λ d. g.D.Desk.settings d) (g.D.Desk.settings c.args.desk.now)
    (Swaps g.D.Desk.run g.D.Desk.shows c.args.h.n)
    (SwapLacks g.D.Desk.run c.args.h.n)
    (holding c.args.desk.now c.args.far.now) (holding c.loop.desk c.loop.far)
    c.loop.counter w (holding c.swap_in.new.desk c.swap_in.new.far) c.in_ok-swapped.swapped
    (c.unwrap-home.result, w.homes c.args.h.n c.unwrap-home.result at, x)
    (c.is_no_frame.ensures.yes c.if-not-is_no_frame.false)
    (holding c.win_room.new.desk c.win_room.new.far) c.in_ok-refusal.field-0 c.in-Some.refusal
    (subst (λ (k : Config). TriesRoom g.D.Desk.run
    g.D.Desk.shows k (holding c.swap_in.new.desk c.swap_in.new.far)
    c.in_ok-refusal.field-0 (holding c.win_room.new.desk c.win_room.new.far))
    (g.met.D.Desk.stays _ _ x.events x.ran ∙ w.desk_settings) c.in_ok-refusal.ensures.tries)
    c.in-Some.is

pub returns-in-Some-clause-settings : goal.returns-in-Some-clause-settings
returns-in-Some-clause-settings g c =
    let x = c.in_ok-swapped.ensures.swap in let w = c.loop.invariant in
    let y = c.in_ok-refusal.ensures.tries.1 in
    g.met.D.Desk.stays _ _ y.events y.ran
    ∙ (g.met.D.Desk.stays _ _ x.events x.ran ∙ w.desk_settings)

pub returns-in-Some-clause-sound : goal.returns-in-Some-clause-sound
returns-in-Some-clause-sound g c =
    shown_after _ _ _ _ _ _ _ c.in_ok-refusal.ensures.tries.1
    (λ es s ran a. (g.met.D.Desk.follows _ _ es s ran a).1)
    (shown_after _ _ _ _ _ _ _ c.in_ok-swapped.ensures.swap
    (λ es s ran a. (g.met.D.Desk.follows _ _ es s ran a).1) c.loop.invariant.shown)

pub loop-preserved : goal.loop-preserved
loop-preserved g c =
    let at = ap (λ (q : FarState). home_at q.homes c.args.h.n) (sym c.far.view_is)
    ∙ sym c.at.ensures.home ∙ c.unwrap-home.ensures in
    let x = c.in_ok-swapped.ensures.swap in let w = c.loop.invariant in
    wins_more g.D.Desk.run g.D.Desk.shows
    (λ d. g.D.Desk.settings d) (g.D.Desk.settings c.args.desk.now)
    (Swaps g.D.Desk.run g.D.Desk.shows c.args.h.n)
    (SwapLacks g.D.Desk.run c.args.h.n)
    (holding c.args.desk.now c.args.far.now) (holding c.loop.desk c.loop.far)
    c.loop.counter w (holding c.swap_in.new.desk c.swap_in.new.far) c.in_ok-swapped.swapped
    (c.unwrap-home.result, w.homes c.args.h.n c.unwrap-home.result at, x)
    (c.is_no_frame.ensures.yes c.if-not-is_no_frame.false)
    (λ d e es ran. g.met.D.Desk.stays d e es ran)
    (λ d e es s ran a. (g.met.D.Desk.follows d e es s ran a).1) c.requires.config
    (g.met.D.Desk.stays _ _ x.events x.ran ∙ w.desk_settings)
    (swap_crammed _ _ c.loop.far c.swap_in.new.far c.in_ok-swapped.swapped x.events x.rule
    (c.is_no_frame.ensures.yes c.if-not-is_no_frame.false)).0
    (shown_after _ _ _ _ _ _ _ x (λ es s ran a. (g.met.D.Desk.follows _ _ es s ran a).1) w.shown)
    (holding c.win_room.new.desk c.win_room.new.far) c.in_ok-refusal.field-0
    (subst (λ (k : Config). TriesRoom g.D.Desk.run
    g.D.Desk.shows k (holding c.swap_in.new.desk c.swap_in.new.far)
    c.in_ok-refusal.field-0 (holding c.win_room.new.desk c.win_room.new.far))
    (g.met.D.Desk.stays _ _ x.events x.ran ∙ w.desk_settings) c.in_ok-refusal.ensures.tries)
    c.in_default.is
