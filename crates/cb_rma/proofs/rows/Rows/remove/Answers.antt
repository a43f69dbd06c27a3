use Rattle.std.proofs.Common.{ap, ◌∙◌}
use Rattle.std.specs.FinMap as map
use Rattle.cb_node.proofs.Laws.{view-remove}
use Rattle.cb_rma.proofs.rows.Rows.remove.Goals as goal

pub returns : goal.returns
returns c = view-remove c.self.inside.by_key c.remove.new.self c.args.key c.remove.ensures.updates
    ∙ ap (λ rows. map.remove rows c.args.key) c.self.view_is
