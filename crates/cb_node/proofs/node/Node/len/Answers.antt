use Rattle.std.proofs.Common.{ap, sym, ◌∙◌}
use Rattle.std.specs.FinMap as map
use Rattle.cb_node.proofs.Views.{len-view}
use Rattle.cb_node.proofs.node.Node.len.Goals as goal

pub returns : goal.returns
returns c = c.len.ensures.len ∙ sym (len-view c.self.inside.rows c.len.ensures.ordered)
    ∙ ap map.len c.self.view_is
