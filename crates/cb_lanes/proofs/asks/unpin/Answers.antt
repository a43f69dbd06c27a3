use Rattle.std.proofs.Common.{arith, inl}
use Rattle.cb_lanes.proofs.PinsEnd.{gave_pin, held_less, pin_of}
use Rattle.cb_lanes.proofs.PinsHeld.{found_at, found_none, newest_below}
use Rattle.cb_lanes.proofs.asks.unpin.Goals as goal

pub remove-requires : goal.remove-requires
remove-requires c = (
  omega arith,
  newest_below c.args.h.n c.in-Some.at c.args.pins.now.items
      (found_at c.args.h.n c.in-Some.at c.as_slice.result.now c.args.pins.now.items
      c.newest_pin.result c.in-Some.is c.as_slice.ensures.value c.newest_pin.ensures.some),
)

pub unpin-requires-clause-pin : goal.unpin-requires-clause-pin
unpin-requires-clause-pin c = pin_of c.args.h.n c.in-Some.at c.remove.result
    c.args.pins.now.items c.args.pass.now.seat.me.0 c.args.pass.now.seat.me.0 c.requires.held
    (found_at c.args.h.n c.in-Some.at c.as_slice.result.now c.args.pins.now.items
    c.newest_pin.result c.in-Some.is c.as_slice.ensures.value c.newest_pin.ensures.some)
    c.remove.ensures.value

pub returns-in-Some-clause-held : goal.returns-in-Some-clause-held
returns-in-Some-clause-held c = held_less c.args.h.n c.in-Some.at c.remove.result
    c.args.pins.now.items c.args.pass.now.seat.me.0 c.unpin.new.pass.seat.me.0 c.requires.held
    (found_at c.args.h.n c.in-Some.at c.as_slice.result.now c.args.pins.now.items
    c.newest_pin.result c.in-Some.is c.as_slice.ensures.value c.newest_pin.ensures.some)
    c.remove.ensures.value c.remove.new.self.items c.remove.ensures.items
    c.unpin.ensures.unpinned

pub returns-in-Some-clause-unpin : goal.returns-in-Some-clause-unpin
returns-in-Some-clause-unpin c = gave_pin c.args.h.n c.in-Some.at c.remove.result
    c.args.pins.now.items c.args.pass.now.seat.me.0 c.unpin.new.pass.seat.me.0 c.requires.held
    (found_at c.args.h.n c.in-Some.at c.as_slice.result.now c.args.pins.now.items
    c.newest_pin.result c.in-Some.is c.as_slice.ensures.value c.newest_pin.ensures.some)
    c.remove.ensures.value c.unpin.ensures.unpinned

pub returns-in-None-clause-unpin : goal.returns-in-None-clause-unpin
returns-in-None-clause-unpin c = inl (found_none c.args.h.n c.as_slice.result.now
    c.args.pins.now.items c.newest_pin.result c.args.pass.now.seat.me.0 c.requires.held
    c.in-None.is c.as_slice.ensures.value c.newest_pin.ensures.none)
