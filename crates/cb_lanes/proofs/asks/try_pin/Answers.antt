use Rattle.std.proofs.Common.{arith, sym, ap, ◌∙◌}
use Rattle.std.proofs.lemmas.Option.{none-some}
use Rattle.std.proofs.lemmas.Result.{IfOk-weaker}
use Rattle.cb_rule.specs.declared.view.View.{View}
use Rattle.cb_shared.proofs.Laws.{known_below}
use Rattle.cb_lanes.proofs.PinsHeld.{held_count, held_more, held_same}
use Rattle.cb_lanes.proofs.PinTurns.{brings_behind, pin_no_turn, pin_none, tries_behind}
use Rattle.cb_lanes.proofs.Stopping.{brings_not}
use Rattle.cb_lanes.proofs.Trying.{bring_leaves, brought, is_hindered, pinned_once, was_far}
use Rattle.cb_lanes.proofs.Trying.{was_freed, was_hindered, was_pinned}
use Rattle.cb_lanes.proofs.asks.try_pin.Goals as goal

pub keep_pin-requires : goal.keep_pin-requires
keep_pin-requires g c = let e = held_count c.args.pins.now.items
    c.args.pass.now.seat.me.0 c.requires.held in let r = c.requires.room in
    omega (arith, e, r)

pub returns-in-Pinned-clause-held : goal.returns-in-Pinned-clause-held
returns-in-Pinned-clause-held g c = held_more c.args.pins.now.items c.keep_pin.new.pins.items
    c.args.h.n c.in-Pinned.pin c.args.pass.now.seat.me.0 c.pin.new.pass.seat.me.0
    (was_pinned c.args.h.n c.pin.result c.in-Pinned.pin _ _ c.in-Pinned.is c.pin.ensures.pin)
    c.keep_pin.ensures.kept c.requires.held

pub returns-in-Pinned-clause-pin : goal.returns-in-Pinned-clause-pin
returns-in-Pinned-clause-pin g c = pinned_once c.args.shared.now.config c.args.h.n c.in-Pinned.pin _
    _ _
    c.version-version.ensures
    (was_pinned c.args.h.n c.pin.result c.in-Pinned.pin _ _ c.in-Pinned.is c.pin.ensures.pin)

pub bring-requires-clause-handle : goal.bring-requires-clause-handle
bring-requires-clause-handle g c = known_below c.args.shared.now.config c.args.h.n
    c.args.pass.now.seat.me.0 c.requires.of.rest c.requires.knows

pub returns-in-NotHere-clause-pin : goal.returns-in-NotHere-clause-pin
returns-in-NotHere-clause-pin g c = IfOk-weaker c.bring.result _ _
    (λ o x. brought c.args.shared.now.config c.args.h.n o c.args.pass.now.seat.me.0
    c.pin.new.pass.seat.me.0 c.bring.new.pass.seat.me.0
    (was_far c.args.h.n c.pin.result _ _ c.in-NotHere.is c.pin.ensures.pin) x)
    c.bring.ensures.brings

pub returns-in-NotHere-clause-held : goal.returns-in-NotHere-clause-held
returns-in-NotHere-clause-held g c = held_same c.args.pins.now.items c.args.pass.now.seat.me.0
    c.bring.new.pass.seat.me.0 (bring_leaves c.args.shared.now.config c.args.h.n
    c.pin.new.pass.seat.me.0 c.bring.new.pass.seat.me.0 c.bring.result c.bring.ensures.brings
    c.bring.ensures.error ∙ ap (λ (z : View). z.pins)
    (was_far c.args.h.n c.pin.result _ _ c.in-NotHere.is c.pin.ensures.pin).2) c.requires.held

pub returns-in-Freed-clause-pin : goal.returns-in-Freed-clause-pin
returns-in-Freed-clause-pin g c =
    was_freed c.args.shared.now.config c.args.h.n c.pin.result _ _ c.in-Freed.is c.pin.ensures.pin

pub returns-in-Moving-clause-pin : goal.returns-in-Moving-clause-pin
returns-in-Moving-clause-pin g c = was_hindered c.args.shared.now.config c.args.h.n c.pin.result
    c.args.pass.now.seat.me.0 c.pin.new.pass.seat.me.0 (is_hindered c.pin.result c.in-Moving.is)
    c.pin.ensures.pin

pub returns-in-NotHere-clause-error : goal.returns-in-NotHere-clause-error
returns-in-NotHere-clause-error g c = brings_not c.args.shared.now.config c.args.h.n
    c.args.pass.now.seat.me.0 c.pin.new.pass.seat.me.0 c.bring.new.pass.seat.me.0
    c.bring.result (was_far c.args.h.n c.pin.result _ _ c.in-NotHere.is c.pin.ensures.pin)
    c.bring.ensures.error

pub returns-in-NotHere-clause-jobs : goal.returns-in-NotHere-clause-jobs
returns-in-NotHere-clause-jobs g c = brings_behind c.args.h.n c.pin.result
    c.args.pass.now.seat.me.0 c.pin.new.pass.seat.me.0 c.bring.new.pass.seat.me.0
    c.pin.ensures.pin c.bring.ensures.jobs

pub returns-in-NotHere-clause-again : goal.returns-in-NotHere-clause-again
returns-in-NotHere-clause-again g c = tries_behind c.args.h.n c.pin.result
    c.args.pass.now.seat.me.0 c.pin.new.pass.seat.me.0 c.bring.new.pass.seat.me.0
    c.pin.ensures.pin c.args.patience.now.brought c.bring.new.patience.brought c.bring.result
    c.bring.ensures.brought

pub returns-in-Pinned-clause-jobs : goal.returns-in-Pinned-clause-jobs
returns-in-Pinned-clause-jobs g c = pin_no_turn c.args.h.n c.pin.result
    c.args.pass.now.seat.me.0 c.pin.new.pass.seat.me.0 c.pin.ensures.pin

pub returns-in-Freed-clause-jobs : goal.returns-in-Freed-clause-jobs
returns-in-Freed-clause-jobs g c = pin_no_turn c.args.h.n c.pin.result
    c.args.pass.now.seat.me.0 c.pin.new.pass.seat.me.0 c.pin.ensures.pin

pub returns-in-Moving-clause-jobs : goal.returns-in-Moving-clause-jobs
returns-in-Moving-clause-jobs g c = pin_no_turn c.args.h.n c.pin.result
    c.args.pass.now.seat.me.0 c.pin.new.pass.seat.me.0 c.pin.ensures.pin

pub returns-in-Pinned-clause-again : goal.returns-in-Pinned-clause-again
returns-in-Pinned-clause-again g c = λ none. absurd (none-some _ (sym none))

pub returns-in-Freed-clause-again : goal.returns-in-Freed-clause-again
returns-in-Freed-clause-again g c = λ none. absurd (none-some _ (sym none))

pub returns-in-Moving-clause-again : goal.returns-in-Moving-clause-again
returns-in-Moving-clause-again g c =
    λ none. pin_none c.args.h.n c.pin.result c.args.pass.now.seat.me.0 c.pin.new.pass.seat.me.0
    c.pin.ensures.pin
