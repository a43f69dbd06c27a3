use Rattle.std.proofs.Common.{ap, ◌∙◌}
use Rattle.std.specs.FinMap as map
use Rattle.cb_node.proofs.Laws.{view-remove}
use Rattle.cb_world.proofs.set_table.SetTable.remove.Goals as goal

pub returns : goal.returns
returns c = view-remove c.self.inside.sets c.remove.new.self c.args.id c.remove.ensures.updates
    ∙ ap (λ sets. map.remove sets c.args.id) c.self.view_is
