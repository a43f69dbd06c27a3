use Rattle.std.proofs.Common.{ap, ◌∙◌}
use Rattle.std.specs.FinMap as map
use Rattle.cb_node.proofs.Views.{view-insert}
use Rattle.cb_node.proofs.node.Node.insert.Goals as goal

pub returns-clause-ok : goal.returns-clause-ok
returns-clause-ok c =
    view-insert c.self.inside.rows c.insert.new.self c.args.key c.args.row
    c.in_ok-insert.ensures.updates
    ∙ ap (λ rows. map.insert rows c.args.key c.args.row) c.self.view_is
