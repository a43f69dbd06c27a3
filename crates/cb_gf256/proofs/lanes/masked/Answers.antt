use Rattle.std.proofs.Common.{bit_and}
use Rattle.cb_gf256.proofs.LaneLemmas.{HasLanes-splat}
use Rattle.cb_gf256.proofs.lanes.masked.Goals as goal

pub returns : goal.returns
returns c = HasLanes-splat bit_and c.args.bytes c.args.mask c.fits-bytes.0
