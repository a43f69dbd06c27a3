use Rattle.std.proofs.Common.{◌∙◌, ◌<◌, ℕ, List, length, refl, ap, sym, subst, arith}
use Rattle.cb_rule.specs.declared.view.Stand.{Stand}
use Rattle.cb_rule.specs.Lists.{Each}
use Rattle.cb_rule.specs.Seats.{pins_it}
use Rattle.cb_rule.specs.Slot.{Sat}
use Rattle.cb_rule.specs.Steps.{without_pin}
use Rattle.cb_shared.specs.Handles.{handles_of}
use Rattle.cb_shared.specs.Passes.{PinFits, record_of}
use Rattle.cb_shared.specs.Seats.{record_at}
use Rattle.cb_shared.proofs.FirstPin.{first_pin, none_pinned}
use Rattle.cb_shared.proofs.Resting.{each_removed}
use Rattle.cb_shared.proofs.WriteSteps.{of_moves}
use Rattle.cb_shared.proofs.seats.give_back.Goals as goal

pub unpin_one-requires-clause-handle : goal.unpin_one-requires-clause-handle
unpin_one-requires-clause-handle c = let p = c.loop-h.pass in let first = c.in-Some.ensures.some in
    (first_pin c.args.config.now (record_of p).pins c.in-Some.h first.0 c.loop-h.invariant.1
    (sym p.pinned ∙ first.1)).below

pub unpin_one-requires-clause-held : goal.unpin_one-requires-clause-held
unpin_one-requires-clause-held c = let p = c.loop-h.pass in let first = c.in-Some.ensures.some in
    (first_pin c.args.config.now (record_of p).pins c.in-Some.h first.0 c.loop-h.invariant.1
    (sym p.pinned ∙ first.1)).held

pub loop-h-smaller : goal.loop-h-smaller
loop-h-smaller c = let p = c.loop-h.pass in let ps = (record_of p).pins in
    let first = c.in-Some.ensures.some in
    let f = first_pin c.args.config.now ps c.in-Some.h first.0 c.loop-h.invariant.1
    (sym p.pinned ∙ first.1) in
    let items = c.unpin_one.ensures.pins
    ∙ ap (λ (x : Sat). handles_of x.0.pins) c.unpin_one.ensures.moved.2 in
    let less = subst (λ (l : List ℕ). length l < length (handles_of ps)) (sym items) f.shorter in
    omega (arith, less, ap (λ (l : List ℕ). length l) p.pinned)

pub loop-h-preserved : goal.loop-h-preserved
loop-h-preserved c = let inv = c.loop-h.invariant in let m = c.unpin_one.ensures.moved in
    let p = c.loop-h.pass.seat in let h = c.in-Some.h in (
      of_moves c.args.top.now.table_id c.args.top.now.key c.args.config.now p c.unpin_one.new.seat
          (without_pin h (record_at p)) inv.0 m refl refl,
      subst (λ (m : Sat). Each (PinFits c.args.config.now) m.0.pins) (sym m.2)
          (each_removed (PinFits c.args.config.now) (pins_it h) (record_at p).pins inv.1),
      (
        m.0 ∙ inv.2.0,
        m.1 ∙ inv.2.1,
        m.2 ∙ ap (λ (l : List Stand). let z : Sat = (record (record_at p) { pins = l }, p.me.1) in
            z) (sym (ap (λ (x : Sat). x.0.pins) m.2))
            ∙ ap (λ (m : Sat).
            let z : Sat = (record m.0 { pins = (record_at c.unpin_one.new.seat).pins }, m.1) in
            z) inv.2.2,
      ),
    )

pub returns : goal.returns
returns c = let inv = c.loop-h.invariant in let p = c.args.pass.now.seat in
    let none = none_pinned (record_of c.loop-h.pass).pins
    (sym c.loop-h.pass.pinned ∙ c.in_default.ensures.none) in (
      inv.2.0,
      inv.2.1,
      inv.2.2 ∙ ap (λ (l : List Stand).
          let z : Sat = (record (record_at p) { pins = l }, p.me.1) in
          z) none,
    )
