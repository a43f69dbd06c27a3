use Rattle.std.proofs.Common.{arith, inl}
use Rattle.cb_lanes.proofs.Peeking.{below_found, found_pin, shows_pin}
use Rattle.cb_lanes.proofs.PinsHeld.{found_none}
use Rattle.cb_lanes.proofs.asks.peek.Goals as goal

pub bounds-pins-at : goal.bounds-pins-at
bounds-pins-at c = below_found c.args.h.n c.in-Some.at c.as_slice-pins.result.now
    c.newest_pin.result c.in-Some.is c.newest_pin.ensures.some

pub offset_bounds-pins-at : goal.offset_bounds-pins-at
offset_bounds-pins-at c = let low = below_found c.args.h.n c.in-Some.at c.as_slice-pins.result.now
    c.newest_pin.result c.in-Some.is c.newest_pin.ensures.some in
    let few = c.as_slice-pins.ensures.fits in omega (arith, low, few)

pub peek_at-requires-clause-pin : goal.peek_at-requires-clause-pin
peek_at-requires-clause-pin c = found_pin c.args.h.n c.in-Some.at _ c.as_slice-pins.result.now
    c.args.pins.now.items c.newest_pin.result c.args.pass.now.seat.me.0 c.requires.held
    c.in-Some.is c.as_slice-pins.ensures.value c.newest_pin.ensures.some

pub returns-in-Some-clause-peek : goal.returns-in-Some-clause-peek
returns-in-Some-clause-peek c = shows_pin c.args.h.n c.in-Some.at _ c.as_slice-pins.result.now
    c.args.pins.now.items c.newest_pin.result c.args.pass.now.seat.me.0 c.requires.held
    c.in-Some.is c.as_slice-pins.ensures.value c.newest_pin.ensures.some
    c.peek_at.new.pass.seat.me.0 c.peek_at.result c.peek_at.ensures.bytes c.peek_at.ensures.above

pub returns-in-None-clause-peek : goal.returns-in-None-clause-peek
returns-in-None-clause-peek c = inl (found_none c.args.h.n c.as_slice-pins.result.now
    c.args.pins.now.items c.newest_pin.result c.args.pass.now.seat.me.0 c.requires.held
    c.in-None.is c.as_slice-pins.ensures.value c.newest_pin.ensures.none)
