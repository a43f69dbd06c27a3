use Rattle.cb_scrub.proofs.FittingLaws.{fits_more}
use Rattle.cb_scrub.proofs.fitting.columns_fit.Goals as goal

pub loop-column-preserved : goal.loop-column-preserved
loop-column-preserved c =
    fits_more c.args.r c.args.position c.args.from c.loop-column.column c.args.rows.now c.loop-column.invariant (c.column_fits.ensures.0 c.if-not-column_fits.false)
