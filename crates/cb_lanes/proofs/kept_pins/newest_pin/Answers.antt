use Rattle.std.proofs.Common.{◌∙◌, ap, arith, sym}
use Rattle.cb_types.specs.declared.handle.Handle.{Handle}
use Rattle.cb_lanes.proofs.PinsHeld.{newest_at, none_at, none_more}
use Rattle.cb_lanes.proofs.kept_pins.newest_pin.Goals as goal

pub loop-at-init : goal.loop-at-init
loop-at-init c i p low = absurd (omega (arith, low))

pub returns-then-handle-h-clause-some : goal.returns-then-handle-h-clause-some
returns-then-handle-h-clause-some c = newest_at c.args.h c.loop-at.at c.args.pins.now _
    c.loop-at-test.true (ap (λ (z : Handle). z.n) (sym c.handle.ensures) ∙ c.if-handle-h.true)
    c.loop-at.invariant

pub loop-at-preserved : goal.loop-at-preserved
loop-at-preserved c = none_more c.args.h c.loop-at.at c.args.pins.now _ c.loop-at-test.true
    (λ is. c.if-handle-h.false (ap (λ (z : Handle). z.n) c.handle.ensures ∙ is))
    c.loop-at.invariant

pub returns-clause-none : goal.returns-clause-none
returns-clause-none c =
    none_at c.args.h c.loop-at.at c.args.pins.now c.loop-at-test.false c.loop-at.invariant
