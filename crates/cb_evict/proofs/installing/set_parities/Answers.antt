use Rattle.std.proofs.Common.{◌*◌, subst}
use Rattle.cb_gf256.specs.Rows.{HaveLength}
use Rattle.cb_world.specs.Leaving.{LeavingState}
use Rattle.cb_evict.proofs.installing.set_parities.Goals as goal

pub install-requires-clause-lengths : goal.install-requires-clause-lengths
install-requires-clause-lengths c = (
  4096 * c.args.batch.now.pages,
  c.requires.lengths,
  subst (λ (b : LeavingState). HaveLength (4096 * b.pages) c.batch.inside.parities.rows)
      c.batch.view_is c.batch.invariant.lengths,
)
