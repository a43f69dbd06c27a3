use Rattle.std.proofs.Common.{◌+◌, set, sym, subst}
use Rattle.cb_erase.proofs.Tables.{Units, units_none, units_more}
use Rattle.cb_erase.proofs.weighing.unit_rows.Goals as goal

pub loop-i-init : goal.loop-i-init
loop-i-init c = units_none c.args.present.now

pub loop-i-preserved : goal.loop-i-preserved
loop-i-preserved c =
    let present = c.args.present.now in
    subst (λ p. Units present (set c.loop-i.table p c.unit_row.result) (c.loop-i.i + 1)) (sym c.from.ensures)
    (units_more present c.loop-i.table c.loop-i.i c.unit_row.result c.requires.ascending c.requires.below c.loop-i-test.true c.loop-i.invariant c.unit_row.ensures.size c.unit_row.ensures.unit)
