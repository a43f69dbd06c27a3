use Rattle.std.proofs.Common.{◌≡◌, length, ap, sym, ◌∙◌}
use Rattle.cb_gf256.specs.Row.{row_sum, scaled_row}
use Rattle.cb_node.specs.NodesState.{known_row, has, with_row}
use Rattle.cb_node.proofs.Put.{with_row-with_row}
use Rattle.cb_node.proofs.Deltas.{has-with_row_here, has-with_row_other, known_row-with_row_other}
use Rattle.cb_node.proofs.nodes.Nodes.add_own_change.Goals as goal

pub known_row-requires-clause-there : goal.known_row-requires-clause-there
known_row-requires-clause-there c =
    let a = c.args in
    ap (λ s. has s a.other.node a.other.key) c.swap_row.ensures.after
    ∙ has-with_row_other a.self.now a.to a.key _ a.other c.requires.to c.requires.other
    ∙ c.requires.other_row

pub add_own_change-requires : goal.add_own_change-requires
add_own_change-requires c =
    let a = c.args in
    let same : c.known_row.result.now ≡ known_row a.self.now a.other.node a.other.key =
    c.known_row.ensures.row
    ∙ ap (λ s. known_row s a.other.node a.other.key) c.swap_row.ensures.after
    ∙ known_row-with_row_other a.self.now a.to a.key _ a.other c.requires.to
    c.requires.other in
    ap length c.swap_row.ensures.row ∙ c.requires.other_length ∙ ap length (sym same)

pub swap_row-requires-2-clause-there : goal.swap_row-requires-2-clause-there
swap_row-requires-2-clause-there c =
    ap (λ s. has s c.args.to c.args.key) c.swap_row.ensures.after
    ∙ has-with_row_here c.args.self.now c.args.to c.args.key _ c.requires.to

pub returns-clause-after : goal.returns-clause-after
returns-clause-after c =
    let a = c.args in
    let row = known_row a.self.now a.to a.key in
    let same : c.known_row.result.now ≡ known_row a.self.now a.other.node a.other.key =
    c.known_row.ensures.row
    ∙ ap (λ s. known_row s a.other.node a.other.key) c.swap_row.ensures.after
    ∙ known_row-with_row_other a.self.now a.to a.key _ a.other c.requires.to
    c.requires.other in
    let changed : c.add_own_change.new.self
    ≡ row_sum row (scaled_row a.c
    (row_sum row (known_row a.self.now a.other.node a.other.key))) =
    c.add_own_change.ensures
    ∙ ap (λ r. row_sum r
    (scaled_row a.c (row_sum r c.known_row.result.now))) c.swap_row.ensures.row
    ∙ ap (λ o. row_sum row (scaled_row a.c (row_sum row o))) same in
    c.swap_row-2.ensures.after
    ∙ ap (λ s. with_row s a.to a.key c.add_own_change.new.self) c.swap_row.ensures.after
    ∙ with_row-with_row a.self.now a.to a.key _ c.add_own_change.new.self c.requires.to
    ∙ ap (λ r. with_row a.self.now a.to a.key r) changed
