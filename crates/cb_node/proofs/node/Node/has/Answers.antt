use Rattle.std.proofs.Common.{is_some, ap, sym, ◌∙◌}
use Rattle.std.specs.FinMap as map
use Rattle.cb_node.proofs.Views.{get-view}
use Rattle.cb_node.proofs.node.Node.has.Goals as goal

pub returns : goal.returns
returns c = c.contains_key.ensures ∙ ap is_some (sym (get-view c.self.inside.rows c.args.key))
    ∙ ap (λ rows. map.contains_key rows c.args.key) c.self.view_is
