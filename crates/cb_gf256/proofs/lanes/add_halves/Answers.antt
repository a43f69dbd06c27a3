use Rattle.cb_gf256.specs.Sum.{◌⊕◌}
use Rattle.cb_gf256.proofs.LaneLemmas.{HasLanes-zip2}
use Rattle.cb_gf256.proofs.lanes.add_halves.Goals as goal

pub returns : goal.returns
returns c = HasLanes-zip2 (λ a b. a ⊕ b) c.args.a c.args.b c.fits-a.0 c.fits-b.0
