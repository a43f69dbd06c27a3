use Rattle.std.proofs.Common.{length, ap, sym, ◌∙◌}
use Rattle.std.proofs.lemmas.List.{length-set}
use Rattle.cb_node.specs.NodesState.{has, with_row}
use Rattle.cb_node.proofs.Put.{with_row-with_row}
use Rattle.cb_node.proofs.Deltas.{has-with_row_here}
use Rattle.cb_node.proofs.nodes.Nodes.set_row.Goals as goal

pub replace-requires : goal.replace-requires
replace-requires c = ap length c.swap_row.ensures.row ∙ sym c.requires.length

pub swap_row-requires-2-clause-there : goal.swap_row-requires-2-clause-there
swap_row-requires-2-clause-there c =
    ap (λ s. has s c.args.node c.args.key) c.swap_row.ensures.after
    ∙ has-with_row_here c.args.self.now c.args.node c.args.key _ c.requires.node

pub returns-clause-after : goal.returns-clause-after
returns-clause-after c =
    let a = c.args in
    c.swap_row-2.ensures.after
    ∙ ap (λ s. with_row s a.node a.key c.replace.new.self) c.swap_row.ensures.after
    ∙ with_row-with_row a.self.now a.node a.key _ c.replace.new.self c.requires.node
    ∙ ap (λ r. with_row a.self.now a.node a.key r) c.replace.ensures

pub returns-clause-count : goal.returns-clause-count
returns-clause-count c =
    ap (λ s. length s.nodes) (returns-clause-after c) ∙ length-set c.args.self.now.nodes c.args.node.n _
