use Rattle.std.proofs.Common.{ap, sym, ◌∙◌}
use Rattle.std.specs.FinMap as map
use Rattle.cb_node.proofs.Laws.{get-view}
use Rattle.cb_world.proofs.set_table.SetTable.get.Goals as goal

pub returns : goal.returns
returns c = c.get.ensures.value ∙ sym (get-view c.self.inside.sets c.args.id)
    ∙ ap (λ sets. map.get sets c.args.id) c.self.view_is
