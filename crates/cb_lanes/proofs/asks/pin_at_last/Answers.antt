use Rattle.std.proofs.Common.{◌<◌, List, length, Some, refl, sym, subst}
use Rattle.cb_rule.specs.declared.view.Stand.{Stand}
use Rattle.cb_shared.specs.Calls.{AtThis, Brings, IsUnanswered}
use Rattle.cb_shared.proofs.Laws.{bringing_then, known_still, none_tried, so_far, tried_then}
use Rattle.cb_lanes.proofs.Stopping.{err_always}
use Rattle.cb_lanes.proofs.Trying.{pin_again, pinned_at_last, vain_pins}
use Rattle.cb_lanes.proofs.asks.pin_at_last.Goals as goal

pub loop-init : goal.loop-init
loop-init g c = (
  c.requires.of,
  c.requires.held,
  so_far (AtThis c.args.h.n)
      (IsUnanswered (Brings c.args.h.n))
      c.args.pass.now.seat.me.0,
  none_tried c.args.h.n c.args.pass.now.seat.me.0 c.args.pass.now.seat.me.0 refl,
)

pub try_pin-requires-clause-of : goal.try_pin-requires-clause-of
try_pin-requires-clause-of g c = c.loop.invariant.0

pub try_pin-requires-clause-held : goal.try_pin-requires-clause-held
try_pin-requires-clause-held g c = c.loop.invariant.1

pub try_pin-requires-clause-knows : goal.try_pin-requires-clause-knows
try_pin-requires-clause-knows g c = known_still (AtThis c.args.h.n)
    (IsUnanswered (Brings c.args.h.n)) (Some c.args.h.n)
    c.args.pass.now.seat.me.0
    c.loop.pass.seat.me.0 c.requires.knows c.loop.invariant.2

pub try_pin-requires-clause-room : goal.try_pin-requires-clause-room
try_pin-requires-clause-room g c = subst (λ (l : List Stand). length l < 16)
    (sym (vain_pins c.args.shared.now.config c.args.h.n _ _ c.loop.invariant.2)) c.requires.room

pub returns-in-Some-2-clause-pin : goal.returns-in-Some-2-clause-pin
returns-in-Some-2-clause-pin g c = pinned_at_last c.args.shared.now.config c.args.h.n
    c.in_ok-reply.field-0 c.in-Some-2.reply c.args.pass.now.seat.me.0 c.loop.pass.seat.me.0
    c.try_pin.new.pass.seat.me.0 c.in-Some-2.is c.loop.invariant.2 c.in_ok-reply.ensures.pin

pub loop-preserved : goal.loop-preserved
loop-preserved g c = (
  c.in_ok-reply.ensures.of,
  c.in_ok-reply.ensures.held,
  pin_again c.args.shared.now.config c.args.h.n c.in_ok-reply.field-0 c.args.pass.now.seat.me.0
      c.loop.pass.seat.me.0 c.try_pin.new.pass.seat.me.0 c.in_default.is c.loop.invariant.2
      c.in_ok-reply.ensures.pin,
  tried_then c.args.h.n c.args.pass.now.seat.me.0 c.loop.pass.seat.me.0
      c.try_pin.new.pass.seat.me.0 c.loop.invariant.3 (c.in_ok-reply.ensures.again c.in_default.is),
)

pub returns-in_err-reply-clause-error : goal.returns-in_err-reply-clause-error
returns-in_err-reply-clause-error g c =
    err_always c.from_residual.result _ (record {
      between = c.loop.pass.seat.me.0;
      in_vain = c.loop.invariant.2;
      lacks = c.in_err-reply.ensures.error;
    })

pub returns-in-Some-2-clause-jobs : goal.returns-in-Some-2-clause-jobs
returns-in-Some-2-clause-jobs g c = bringing_then c.args.h.n c.args.pass.now.seat.me.0
    c.loop.pass.seat.me.0 c.try_pin.new.pass.seat.me.0 c.loop.invariant.3
    c.in_ok-reply.ensures.jobs

pub returns-in_err-reply-clause-jobs : goal.returns-in_err-reply-clause-jobs
returns-in_err-reply-clause-jobs g c = bringing_then c.args.h.n c.args.pass.now.seat.me.0
    c.loop.pass.seat.me.0 c.try_pin.new.pass.seat.me.0 c.loop.invariant.3
    c.in_err-reply.ensures.jobs
