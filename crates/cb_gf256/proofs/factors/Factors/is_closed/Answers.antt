use Rattle.std.proofs.Common.{subst}
use Rattle.cb_gf256.specs.Closed.{IsClosed}
use Rattle.cb_gf256.proofs.factors.Factors.is_closed.Goals as goal

pub returns : goal.returns
returns c t = subst IsClosed c.self.view_is (c.self.invariant.1 t)
