use Rattle.std.proofs.Common.{ap, ◌∙◌, subst}
use Rattle.std.specs.FinMap as map
use Rattle.cb_node.specs.NodesState.{IsNodes, rows_of_node}
use Rattle.cb_node.proofs.Kept.{rows_at-read, kept_after_write, IsNodes-with_dropped}
use Rattle.cb_node.proofs.nodes.Nodes.drop_row.Goals as goal

pub invariant_of-self : goal.invariant_of-self
invariant_of-self c =
    let old = c.args.self.now in
    let node = c.args.node in
    let read = rows_at-read old c.self.inside.nodes.items node c.from.result c.index_mut.result.now
    (ap (λ s. s.nodes) c.self.view_is) c.from.ensures c.requires c.index_mut.ensures.value in
    kept_after_write _ old c.from.result node c.remove-row.new.self
    (map.remove (rows_of_node old node) c.args.key) c.self.view_is c.from.ensures
    (c.remove-row.ensures ∙ ap (λ rows. map.remove rows c.args.key) read)
    (IsNodes-with_dropped old node c.args.key c.requires
    (subst IsNodes c.self.view_is c.self.invariant))

pub returns-clause-valid : goal.returns-clause-valid
returns-clause-valid c =
    let old = c.args.self.now in
    let node = c.args.node in
    let read = rows_at-read old c.self.inside.nodes.items node c.from.result c.index_mut.result.now
    (ap (λ s. s.nodes) c.self.view_is) c.from.ensures c.requires c.index_mut.ensures.value in
    kept_after_write _ old c.from.result node c.remove-row.new.self
    (map.remove (rows_of_node old node) c.args.key) c.self.view_is c.from.ensures
    (c.remove-row.ensures ∙ ap (λ rows. map.remove rows c.args.key) read)
    (IsNodes-with_dropped old node c.args.key c.requires
    (subst IsNodes c.self.view_is c.self.invariant))
