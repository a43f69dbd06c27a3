use Rattle.std.proofs.Common.{subst}
use Rattle.std.specs.FinMap as map
use Rattle.cb_node.specs.NodesState.{IsNodes}
use Rattle.cb_node.proofs.Kept.{kept_after_write, IsNodes-with_wiped}
use Rattle.cb_node.proofs.nodes.Nodes.wipe.Goals as goal

pub invariant_of-self : goal.invariant_of-self
invariant_of-self c =
    kept_after_write _ c.args.self.now c.from.result c.args.node c.clear.new.self map.empty
    c.self.view_is c.from.ensures c.clear.ensures
    (IsNodes-with_wiped c.args.self.now c.args.node (subst IsNodes c.self.view_is c.self.invariant))

pub returns-clause-valid : goal.returns-clause-valid
returns-clause-valid c =
    kept_after_write _ c.args.self.now c.from.result c.args.node c.clear.new.self map.empty
    c.self.view_is c.from.ensures c.clear.ensures
    (IsNodes-with_wiped c.args.self.now c.args.node (subst IsNodes c.self.view_is c.self.invariant))
