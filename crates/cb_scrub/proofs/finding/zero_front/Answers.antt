use Rattle.cb_scrub.proofs.Telling.{zero_block}
use Rattle.cb_scrub.proofs.finding.zero_front.Goals as goal

pub loop-block-preserved : goal.loop-block-preserved
loop-block-preserved c =
    zero_block c.args.r c.loop-block.block c.args.rows.now c.loop-block.invariant (c.block_is_zero.ensures.0 c.if-not-block_is_zero.false)
