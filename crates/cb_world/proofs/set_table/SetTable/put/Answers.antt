use Rattle.std.proofs.Common.{ap, ◌∙◌}
use Rattle.std.specs.FinMap as map
use Rattle.cb_node.proofs.Laws.{view-insert}
use Rattle.cb_world.proofs.set_table.SetTable.put.Goals as goal

pub returns-clause-ok : goal.returns-clause-ok
returns-clause-ok c =
    view-insert c.self.inside.sets c.insert.new.self c.args.id c.args.kept
    c.in_ok-insert.ensures.updates
    ∙ ap (λ sets. map.insert sets c.args.id c.args.kept) c.self.view_is
