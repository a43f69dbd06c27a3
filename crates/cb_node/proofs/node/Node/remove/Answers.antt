use Rattle.std.proofs.Common.{ap, ◌∙◌}
use Rattle.std.specs.FinMap as map
use Rattle.cb_node.proofs.Views.{view-remove}
use Rattle.cb_node.proofs.node.Node.remove.Goals as goal

pub returns : goal.returns
returns c = view-remove c.self.inside.rows c.remove.new.self c.args.key c.remove.ensures.updates
    ∙ ap (λ rows. map.remove rows c.args.key) c.self.view_is
