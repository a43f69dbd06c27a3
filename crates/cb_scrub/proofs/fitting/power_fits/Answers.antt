use Rattle.cb_scrub.proofs.FittingLaws.{lanes_fit}
use Rattle.cb_scrub.proofs.fitting.power_fits.Goals as goal

pub returns : goal.returns
returns c j e =
    lanes_fit j c.args.at c.args.factor.now c.args.rows.now c.args.sum c.block_syndrome-other.result c.times_block.result c.add_blocks.result c.is_zero_block.result
    (c.block_syndrome-other.ensures j e) c.times_block.ensures c.add_blocks.ensures c.is_zero_block.ensures
