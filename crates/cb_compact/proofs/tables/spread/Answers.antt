use Rattle.std.proofs.Common.{◌+◌, List, Bool, sym, subst, arith}
use Rattle.cb_compact.proofs.Within.{Spread, spread_set, spread_stays}
use Rattle.cb_compact.proofs.tables.spread.Goals as goal
use Rattle.cb_compact.proofs.tables.spread.Goals.{then-has_smaller, else-has_smaller}

pub loop-mask-preserved : goal.loop-mask-preserved
loop-mask-preserved c =
    let k = c.args.k in let old = c.args.marks.now in let marks = c.loop-mask.marks in
    let n = c.loop-mask.mask in
    elim c.if-has_smaller.branch [
      | then-has_smaller w ↦ subst (λ (l : List Bool). Spread k old l (n + 1)) (sym w.marks-is)
          (spread_set k old marks n c.loop-mask.invariant
          (let l = c.loop-mask-test.true in let e = c.loop-mask.auto.marks in omega (arith, l, e)))
      | else-has_smaller w ↦ subst (λ (l : List Bool). Spread k old l (n + 1)) (sym w.marks-is)
          (spread_stays k old marks n c.loop-mask.invariant
          (c.has_smaller.ensures w.if-has_smaller.false))
    ]
