use Rattle.std.proofs.Common.{ap, sym, ◌∙◌}
use Rattle.std.specs.FinMap as map
use Rattle.cb_node.proofs.Laws.{get-view}
use Rattle.cb_rma.proofs.rows.Rows.get.Goals as goal

pub returns : goal.returns
returns c = c.get.ensures.value ∙ sym (get-view c.self.inside.by_key c.args.key)
    ∙ ap (λ rows. map.get rows c.args.key) c.self.view_is
