use Rattle.std.proofs.Common.{sym}
use Rattle.cb_core.proofs.OrderEnds.{not_landed, was_landed}
use Rattle.cb_core.proofs.ordering.behind_land.Goals as goal

pub returns-then-has_landed-clause-keeps : goal.returns-then-has_landed-clause-keeps
returns-then-has_landed-clause-keeps c =
    let z = c.has_landed.ensures.yes c.if-has_landed.true in
    sym (was_landed c.args.ended c.args.order z.0 z.1)

pub returns-else-has_landed-clause-keeps : goal.returns-else-has_landed-clause-keeps
returns-else-has_landed-clause-keeps c = sym (not_landed c.args.ended c.args.order
    (c.has_landed.ensures.other c.if-has_landed.false))
