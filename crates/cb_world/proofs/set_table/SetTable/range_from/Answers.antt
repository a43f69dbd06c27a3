use Rattle.std.proofs.Common.{subst}
use Rattle.cb_world.specs.Sets.{SetMap}
use Rattle.cb_world.specs.SetsFrom.{AreFrom}
use Rattle.cb_world.proofs.SetWalk.{sets_from}
use Rattle.cb_world.proofs.set_table.SetTable.range_from.Goals as goal

pub returns : goal.returns
returns c = subst (λ (m : SetMap). AreFrom m c.args.from c.range.result) c.self.view_is
    (sets_from c.self.inside.sets c.args.from c.range.result c.range.ensures.ordered
    (c.range.ensures.between tt))
