use Rattle.std.proofs.Common.{count_by, sym, refl, ap, ◌∙◌, arith}
use Rattle.std.proofs.lemmas.List.{take_all}
use Rattle.cb_set.specs.SetState.{live_at}
use Rattle.std.proofs.lemmas.List.Sums.{count_by_more_no, count_by_more_yes}
use Rattle.cb_compact.proofs.merging.count_live.Goals as goal
use Rattle.cb_compact.proofs.merging.count_live.Goals.{then-live_at, else-live_at}

pub loop-position-init : goal.loop-position-init
loop-position-init c = record { counted = refl; few = omega arith }

pub live_at-requires : goal.live_at-requires
live_at-requires c = c.requires.data c.loop-position.position-index 0 c.loop-position-test.true

pub overflow_add-count : goal.overflow_add-count
overflow_add-count c =
    let l = c.loop-position-test.true in let f = c.requires.few in let b =
    c.loop-position.invariant.few in
    omega (arith, l, f, b)

pub loop-position-preserved : goal.loop-position-preserved
loop-position-preserved c =
    let f = live_at c.args.set.now in let i = c.loop-position.position-index in
    let taken = c.args.taken.now in let x = c.loop-position.invariant in
    elim c.if-live_at.branch [
      | then-live_at w ↦
          let on = count_by_more_yes f taken i 0 c.loop-position-test.true (sym c.live_at.ensures
          ∙ w.if-live_at.true) in
          let e = w.count-is in let a = x.counted in let b = x.few in
          record { counted = omega (arith, on, e, a); few = omega (arith, e, b) }
      | else-live_at w ↦
          let off = count_by_more_no f taken i 0 c.loop-position-test.true (sym c.live_at.ensures
          ∙ w.if-live_at.false) in
          let e = w.count-is in let a = x.counted in let b = x.few in
          record { counted = omega (arith, off, e, a); few = omega (arith, e, b) }
    ]

pub returns : goal.returns
returns c = c.loop-position.invariant.counted
    ∙ ap (count_by (live_at c.args.set.now))
    (take_all c.loop-position.position-index c.args.taken.now c.loop-position-test.false)
