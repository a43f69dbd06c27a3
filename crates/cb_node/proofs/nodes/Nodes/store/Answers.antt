use Rattle.std.proofs.Common.{ap, ◌∙◌, subst}
use Rattle.std.specs.FinMap as map
use Rattle.cb_node.specs.NodesState.{IsNodes, rows_of_node}
use Rattle.cb_node.proofs.Kept.{rows_at-read, kept_after_write, IsNodes-with_row}
use Rattle.cb_node.proofs.nodes.Nodes.store.Goals as goal

pub invariant_of-self-2 : goal.invariant_of-self-2
invariant_of-self-2 c =
    let old = c.args.self.now in
    let node = c.args.node in
    let read = rows_at-read old c.self.inside.nodes.items node c.from.result c.index_mut.result.now
    (ap (λ s. s.nodes) c.self.view_is) c.from.ensures c.requires.node c.index_mut.ensures.value
    in
    kept_after_write _ old c.from.result node c.insert.new.self
    (map.insert (rows_of_node old node) c.args.key c.args.row) c.self.view_is c.from.ensures
    (c.in_ok-insert.ensures.ok ∙ ap (λ rows. map.insert rows c.args.key c.args.row) read)
    (IsNodes-with_row old node c.args.key c.args.row
    (subst IsNodes c.self.view_is c.self.invariant) c.requires.fresh c.requires.room)

pub returns-clause-valid : goal.returns-clause-valid
returns-clause-valid c =
    let old = c.args.self.now in
    let node = c.args.node in
    let read = rows_at-read old c.self.inside.nodes.items node c.from.result c.index_mut.result.now
    (ap (λ s. s.nodes) c.self.view_is) c.from.ensures c.requires.node c.index_mut.ensures.value
    in
    kept_after_write _ old c.from.result node c.insert.new.self
    (map.insert (rows_of_node old node) c.args.key c.args.row) c.self.view_is c.from.ensures
    (c.in_ok-insert.ensures.ok ∙ ap (λ rows. map.insert rows c.args.key c.args.row) read)
    (IsNodes-with_row old node c.args.key c.args.row
    (subst IsNodes c.self.view_is c.self.invariant) c.requires.fresh c.requires.room)
