use Rattle.std.proofs.Common.{refl, lit<}
use Rattle.cb_shared.specs.Sealing.{sealed}
use Rattle.cb_shared.proofs.seal.put.Goals as goal

pub swap-requires : goal.swap-requires
swap-requires g c = (
  lit< tt,
  c.args.draft.now.tied,
  λ n views any at small. (sealed g.W.UnderSeal.world g.W.UnderSeal.view, tt, refl),
)
