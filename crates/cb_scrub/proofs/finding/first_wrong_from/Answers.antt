use Rattle.cb_scrub.proofs.Telling.{zero_more}
use Rattle.cb_scrub.proofs.finding.first_wrong_from.Goals as goal

pub loop-column-preserved : goal.loop-column-preserved
loop-column-preserved c =
    zero_more c.args.r c.args.from c.loop-column.column c.args.rows.now c.loop-column.invariant (c.column_is_zero.ensures.0 c.if-not-column_is_zero.false)
