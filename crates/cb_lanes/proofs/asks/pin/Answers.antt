use Rattle.std.proofs.Common.{[], arith, sym, ◌∙◌, refl}
use Rattle.std.proofs.lemmas.Result.{IfOk-weaker}
use Rattle.cb_lanes.proofs.PinsHeld.{held_count}
use Rattle.cb_lanes.proofs.Trying.{pin_goes}
use Rattle.cb_lanes.proofs.asks.pin.Goals as goal

pub returns-then-len-eq-MOST_PINS-clause-pin : goal.returns-then-len-eq-MOST_PINS-clause-pin
returns-then-len-eq-MOST_PINS-clause-pin g c = (
  sym (held_count c.args.pins.now.items c.args.pass.now.seat.me.0 c.requires.held)
      ∙ sym c.len.ensures.value ∙ c.if-len-eq-MOST_PINS.true,
  refl,
)

pub pin_at_last-requires-clause-room : goal.pin_at_last-requires-clause-room
pin_at_last-requires-clause-room g c = let e = held_count c.args.pins.now.items
    c.args.pass.now.seat.me.0 c.requires.held in let n = c.len.ensures.value in
    let f = c.len.ensures.fits in let d = c.if-len-eq-MOST_PINS.false in omega (arith, e, n, f, d)

pub returns-clause-pin : goal.returns-clause-pin
returns-clause-pin g c = let e = held_count c.args.pins.now.items
    c.args.pass.now.seat.me.0 c.requires.held in let n = c.len.ensures.value in
    let f = c.len.ensures.fits in let d = c.if-len-eq-MOST_PINS.false in
    IfOk-weaker c.pin_at_last.result _ _ (λ r x. pin_goes c.args.shared.now.config c.args.h.n r
    c.args.pass.now.seat.me.0 c.pin_at_last.new.pass.seat.me.0 (omega (arith, e, n, f, d)) x)
    c.pin_at_last.ensures.pin

pub returns-clause-error : goal.returns-clause-error
returns-clause-error g c = c.pin_at_last.ensures.error

pub returns-then-len-eq-MOST_PINS-clause-jobs : goal.returns-then-len-eq-MOST_PINS-clause-jobs
returns-then-len-eq-MOST_PINS-clause-jobs g c = ([], refl, tt)

pub returns-clause-jobs : goal.returns-clause-jobs
returns-clause-jobs g c = c.pin_at_last.ensures.jobs
