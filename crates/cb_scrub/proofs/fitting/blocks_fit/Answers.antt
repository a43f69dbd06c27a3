use Rattle.std.proofs.Common.{◌*◌}
use Rattle.cb_scrub.proofs.FittingLaws.{fits_block}
use Rattle.cb_scrub.proofs.fitting.blocks_fit.Goals as goal

pub loop-block-preserved : goal.loop-block-preserved
loop-block-preserved c =
    fits_block c.args.r c.args.position (c.args.first * 64) c.loop-block.block c.args.rows.now c.loop-block.invariant (c.block_fits.ensures.0 c.if-not-block_fits.false)
