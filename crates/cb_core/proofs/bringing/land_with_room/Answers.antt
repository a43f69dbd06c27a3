use Rattle.std.proofs.Common.{◌∙◌, refl, subst, sym}
use Rattle.cb_types.specs.declared.config.Config.{Config}
use Rattle.cb_types.specs.Config.{IsAccepted}
use Rattle.cb_swapin.specs.LandRule.{done_order}
use Rattle.cb_core.specs.Ordered.{Lands, NothingDone}
use Rattle.cb_core.specs.Parts.WithRoom.{at_once}
use Rattle.cb_core.specs.Parts.RoomStops.{at_once as lacks_at_once}
use Rattle.cb_core.specs.Turned.{TriesRoom}
use Rattle.cb_core.proofs.Composing.{any_err, holding, shown_after}
use Rattle.cb_core.proofs.Exits.{configured_as}
use Rattle.cb_core.proofs.LandRooms.{any_kept, evicted_kept, land_crammed, lands_nothing}
use Rattle.cb_core.proofs.Winning.{few_drawn, room_lacks, room_refused, wins_more, wins_none}
use Rattle.cb_core.proofs.bringing.land_with_room.Goals as goal

pub loop-init : goal.loop-init
loop-init g c = let k = c.requires.kept in record {
  wins = wins_none g.D.Desk.run g.D.Desk.shows
      (λ d. g.D.Desk.settings d) (g.D.Desk.settings c.args.desk.now)
      (Lands g.D.Desk.run g.D.Desk.shows (done_order c.args.done))
      (NothingDone g.D.Desk.run) (holding c.args.desk.now c.args.far.now)
      c.requires.config refl c.requires.configured (k.0, k.1, k.2);
  kept = λ t. any_kept c.args.done c.args.far.now k.0 t k.3;
}

pub land-requires-clause-config : goal.land-requires-clause-config
land-requires-clause-config g c =
    subst IsAccepted (sym c.loop.invariant.wins.desk_settings) c.requires.config

pub land-requires-clause-kept : goal.land-requires-clause-kept
land-requires-clause-kept g c = let k = c.loop.invariant.wins.shown in
    (k.0, k.1, k.2, c.loop.invariant.kept k.0)

pub returns-in_err-landed-clause-error : goal.returns-in_err-landed-clause-error
returns-in_err-landed-clause-error g c =
    any_err _ c.from_residual.result (c.loop.invariant.wins.stops
    (holding c.land.new.desk c.land.new.far)
    (lacks_at_once (lands_nothing g.D.Desk.run g.D.Desk.shows
    (λ d. g.D.Desk.settings d) (g.D.Desk.settings c.args.desk.now) (holding c.loop.desk c.loop.far)
    (holding c.land.new.desk c.land.new.far) (λ d. g.met.D.Desk.none d)
    c.in_err-landed.ensures.desk c.in_err-landed.ensures.far)))

pub returns-then-not-is_no_frame-clause-lands : goal.returns-then-not-is_no_frame-clause-lands
returns-then-not-is_no_frame-clause-lands g c =
    c.loop.invariant.wins.goes c.in_ok-landed.landed (holding c.land.new.desk c.land.new.far)
    (at_once c.in_ok-landed.ensures.land (c.is_no_frame.ensures.other c.if-not-is_no_frame.true))

pub win_room-requires-clause-config : goal.win_room-requires-clause-config
win_room-requires-clause-config g c = let x = c.in_ok-landed.ensures.land in
    subst IsAccepted
    (sym (g.met.D.Desk.stays _ _ x.events x.ran ∙ c.loop.invariant.wins.desk_settings))
    c.requires.config

pub win_room-requires-clause-configured : goal.win_room-requires-clause-configured
win_room-requires-clause-configured g c =
    let x = c.in_ok-landed.ensures.land in let w = c.loop.invariant.wins in
    configured_as _ _ c.loop.far c.land.new.far
    (g.met.D.Desk.stays _ _ x.events x.ran ∙ w.desk_settings)
    (land_crammed _ c.loop.far c.land.new.far c.in_ok-landed.landed x.events x.rule
    (c.is_no_frame.ensures.yes c.if-not-is_no_frame.false)) w.configured

pub win_room-requires-clause-counts : goal.win_room-requires-clause-counts
win_room-requires-clause-counts g c = let x = c.in_ok-landed.ensures.land in
    few_drawn g.D.Desk.run g.D.Desk.shows
    (λ d. g.D.Desk.settings d) (g.D.Desk.settings c.args.desk.now)
    (Lands g.D.Desk.run g.D.Desk.shows (done_order c.args.done))
    (NothingDone g.D.Desk.run)
    (holding c.args.desk.now c.args.far.now) (holding c.loop.desk c.loop.far)
    c.loop.counter c.loop.invariant.wins c.requires.counts c.land.new.far
    (land_crammed _ c.loop.far c.land.new.far c.in_ok-landed.landed x.events x.rule
    (c.is_no_frame.ensures.yes c.if-not-is_no_frame.false))

pub win_room-requires-clause-sound : goal.win_room-requires-clause-sound
win_room-requires-clause-sound g c = shown_after _ _ _ _ _ _ _ c.in_ok-landed.ensures.land
    (λ es s ran a. (g.met.D.Desk.follows _ _ es s ran a).1) c.loop.invariant.wins.shown

pub returns-in_err-refusal-clause-error : goal.returns-in_err-refusal-clause-error
returns-in_err-refusal-clause-error g c =
    room_lacks g.D.Desk.run g.D.Desk.shows
    (λ d. g.D.Desk.settings d) (g.D.Desk.settings c.args.desk.now)
    (Lands g.D.Desk.run g.D.Desk.shows (done_order c.args.done))
    (NothingDone g.D.Desk.run)
    (holding c.args.desk.now c.args.far.now) (holding c.loop.desk c.loop.far)
    c.loop.counter c.loop.invariant.wins (holding c.land.new.desk c.land.new.far)
    c.in_ok-landed.landed c.in_ok-landed.ensures.land
    (c.is_no_frame.ensures.yes c.if-not-is_no_frame.false)
    (holding c.win_room.new.desk c.win_room.new.far) _
    c.from_residual-in_err-refusal.result c.in_err-refusal.ensures.error

pub returns-in-Some-clause-lands : goal.returns-in-Some-clause-lands
returns-in-Some-clause-lands g c =
    let x = c.in_ok-landed.ensures.land in let w = c.loop.invariant.wins in
    room_refused g.D.Desk.run g.D.Desk.shows
    (λ d. g.D.Desk.settings d) (g.D.Desk.settings c.args.desk.now)
    (Lands g.D.Desk.run g.D.Desk.shows (done_order c.args.done))
    (NothingDone g.D.Desk.run)
    (holding c.args.desk.now c.args.far.now) (holding c.loop.desk c.loop.far)
    c.loop.counter w (holding c.land.new.desk c.land.new.far) c.in_ok-landed.landed x
    (c.is_no_frame.ensures.yes c.if-not-is_no_frame.false)
    (holding c.win_room.new.desk c.win_room.new.far) c.in_ok-refusal.field-0 c.in-Some.refusal
    (subst (λ (k : Config). TriesRoom g.D.Desk.run
    g.D.Desk.shows k (holding c.land.new.desk c.land.new.far)
    c.in_ok-refusal.field-0 (holding c.win_room.new.desk c.win_room.new.far))
    (g.met.D.Desk.stays _ _ x.events x.ran ∙ w.desk_settings) c.in_ok-refusal.ensures.tries)
    c.in-Some.is

pub loop-preserved : goal.loop-preserved
loop-preserved g c =
    let x = c.in_ok-landed.ensures.land in let w = c.loop.invariant.wins in
    let full = c.is_no_frame.ensures.yes c.if-not-is_no_frame.false in
    let same = land_crammed _ c.loop.far c.land.new.far c.in_ok-landed.landed x.events x.rule full in
    let known = shown_after _ _ _ _ _ _ _ x (λ es s ran a. (g.met.D.Desk.follows _ _ es s ran a).1)
    w.shown in
    let tries = subst (λ (k : Config). TriesRoom g.D.Desk.run
    g.D.Desk.shows k (holding c.land.new.desk c.land.new.far)
    c.in_ok-refusal.field-0 (holding c.win_room.new.desk c.win_room.new.far))
    (g.met.D.Desk.stays _ _ x.events x.ran ∙ w.desk_settings) c.in_ok-refusal.ensures.tries in record {
      wins = wins_more g.D.Desk.run g.D.Desk.shows
          (λ d. g.D.Desk.settings d) (g.D.Desk.settings c.args.desk.now)
          (Lands g.D.Desk.run g.D.Desk.shows
          (done_order c.args.done))
          (NothingDone g.D.Desk.run)
          (holding c.args.desk.now c.args.far.now) (holding c.loop.desk c.loop.far)
          c.loop.counter w (holding c.land.new.desk c.land.new.far) c.in_ok-landed.landed x full
          (λ d e es ran. g.met.D.Desk.stays d e es ran)
          (λ d e es s ran a. (g.met.D.Desk.follows d e es s ran a).1) c.requires.config
          (g.met.D.Desk.stays _ _ x.events x.ran ∙ w.desk_settings) same known
          (holding c.win_room.new.desk c.win_room.new.far) c.in_ok-refusal.field-0 tries
          c.in_default.is;
      kept = evicted_kept g.D.Desk.run g.D.Desk.shows
          (λ d. g.D.Desk.settings d) (g.D.Desk.settings c.args.desk.now) c.args.done
          (holding c.loop.desk c.loop.far) (holding c.land.new.desk c.land.new.far)
          (holding c.win_room.new.desk c.win_room.new.far) c.in_ok-refusal.field-0 same known tries
          c.loop.invariant.kept;
    }
