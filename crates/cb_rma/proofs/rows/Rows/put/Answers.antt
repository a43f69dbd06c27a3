use Rattle.std.proofs.Common.{ℕ, List, ap, ◌∙◌}
use Rattle.std.specs.FinMap as map
use Rattle.cb_node.proofs.Laws.{view-insert}
use Rattle.cb_rma.proofs.rows.Rows.put.Goals as goal

pub returns-clause-ok : goal.returns-clause-ok
returns-clause-ok c =
    view-insert c.self.inside.by_key c.insert.new.self c.args.key c.in_ok-row.row
    c.in_ok-insert.ensures.updates
    ∙ ap (λ rows. map.insert rows c.args.key c.in_ok-row.row) c.self.view_is
    ∙ ap (λ (row : List ℕ). map.insert c.args.self.now c.args.key row) c.in_ok-row.ensures.items
