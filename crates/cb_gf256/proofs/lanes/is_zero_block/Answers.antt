use Rattle.cb_gf256.proofs.LaneLemmas.{zero_of_mask}
use Rattle.cb_gf256.proofs.lanes.is_zero_block.Goals as goal

pub returns : goal.returns
returns c = zero_of_mask c.args.block c.fits-block.0
