use Rattle.std.proofs.Common.{arith, refl, ◌∙◌}
use Rattle.cb_lanes.proofs.PinsEnd.{all_left, held_less, pin_of, pins_less}
use Rattle.cb_lanes.proofs.PinsHeld.{first_newest, held_count}
use Rattle.cb_lanes.proofs.asks.leave.Goals as goal

pub loop-init : goal.loop-init
loop-init c = (
  c.requires.of,
  c.requires.held,
  let e = c.len-count.ensures.value in omega (arith, e),
  refl,
)

pub remove-requires : goal.remove-requires
remove-requires c = let e = c.loop.invariant.2 in let r = c.loop-test.true in omega (arith, e, r)

pub unpin-requires-clause-of : goal.unpin-requires-clause-of
unpin-requires-clause-of c = c.loop.invariant.0

pub unpin-requires-clause-pin : goal.unpin-requires-clause-pin
unpin-requires-clause-pin c = let e = c.loop.invariant.2 in let r = c.loop-test.true in
    pin_of c.remove.result.handle.n 0 c.remove.result c.loop.pins.items c.loop.pass.seat.me.0
    c.loop.pass.seat.me.0 c.loop.invariant.1
    (first_newest c.remove.result c.loop.pins.items (omega (arith, e, r)) c.remove.ensures.value)
    c.remove.ensures.value

pub loop-preserved : goal.loop-preserved
loop-preserved c = let e = c.loop.invariant.2 in let r = c.loop-test.true in
    let s = c.remove.ensures.len in (
      c.unpin.ensures.of,
      held_less c.remove.result.handle.n 0 c.remove.result c.loop.pins.items
          c.loop.pass.seat.me.0 c.unpin.new.pass.seat.me.0 c.loop.invariant.1
          (first_newest c.remove.result c.loop.pins.items (omega (arith, e, r))
          c.remove.ensures.value) c.remove.ensures.value c.remove.new.self.items
          c.remove.ensures.items c.unpin.ensures.unpinned,
      omega (arith, e, s),
      pins_less c.remove.result.handle.n c.args.pass.now.seat.me.0 c.loop.pass.seat.me.0
          c.unpin.new.pass.seat.me.0 c.loop.invariant.3 c.unpin.ensures.unpinned,
    )

pub returns-clause-of : goal.returns-clause-of
returns-clause-of c = c.loop.invariant.0

pub returns-clause-held : goal.returns-clause-held
returns-clause-held c = c.loop.invariant.1

pub returns-clause-count : goal.returns-clause-count
returns-clause-count c = c.len-count.ensures.value ∙ held_count c.args.pins.now.items
    c.args.pass.now.seat.me.0 c.requires.held

pub returns-clause-left : goal.returns-clause-left
returns-clause-left c = let e = c.loop.invariant.2 in let r = c.loop-test.false in
    all_left c.loop.pins.items c.args.pass.now.seat.me.0 c.loop.pass.seat.me.0
    c.loop.invariant.3 c.loop.invariant.1 (omega (arith, e, r))
