use Rattle.std.proofs.Common.{◌≡◌, length, ap, sym, ◌∙◌}
use Rattle.cb_gf256.specs.Row.{row_sum, scaled_row}
use Rattle.cb_node.specs.NodesState.{known_row, has, with_row}
use Rattle.cb_node.proofs.Put.{with_row-with_row}
use Rattle.cb_node.proofs.Deltas.{has-with_row_here, has-with_row_other, known_row-with_row_other, scaled_one_by_one, length-added}
use Rattle.cb_node.proofs.nodes.Nodes.add_change.Goals as goal

pub known_row-requires-clause-there : goal.known_row-requires-clause-there
known_row-requires-clause-there c =
    let a = c.args in
    ap (λ s. has s a.old.node a.old.key) c.swap_row.ensures.after
    ∙ has-with_row_other a.self.now a.to a.key _ a.old c.requires.to c.requires.old_other
    ∙ c.requires.old_row

pub add_scaled-requires : goal.add_scaled-requires
add_scaled-requires c =
    let a = c.args in
    let one : c.known_row.result.now ≡ known_row a.self.now a.old.node a.old.key =
    c.known_row.ensures.row ∙ ap (λ s. known_row s a.old.node a.old.key) c.swap_row.ensures.after
    ∙ known_row-with_row_other a.self.now a.to a.key _ a.old c.requires.to c.requires.old_other
    in
    ap length c.swap_row.ensures.row ∙ c.requires.old_length ∙ ap length (sym one)

pub known_row-requires-2-clause-there : goal.known_row-requires-2-clause-there
known_row-requires-2-clause-there c =
    let a = c.args in
    ap (λ s. has s a.new.node a.new.key) c.swap_row.ensures.after
    ∙ has-with_row_other a.self.now a.to a.key _ a.new c.requires.to c.requires.new_other
    ∙ c.requires.new_row

pub add_scaled-requires-2 : goal.add_scaled-requires-2
add_scaled-requires-2 c =
    let a = c.args in
    let row = known_row a.self.now a.to a.key in
    let one : c.known_row.result.now ≡ known_row a.self.now a.old.node a.old.key =
    c.known_row.ensures.row ∙ ap (λ s. known_row s a.old.node a.old.key) c.swap_row.ensures.after
    ∙ known_row-with_row_other a.self.now a.to a.key _ a.old c.requires.to c.requires.old_other
    in
    let other : c.known_row-2.result.now ≡ known_row a.self.now a.new.node a.new.key =
    c.known_row-2.ensures.row ∙ ap (λ s. known_row s a.new.node a.new.key) c.swap_row.ensures.after
    ∙ known_row-with_row_other a.self.now a.to a.key _ a.new c.requires.to c.requires.new_other
    in
    let added : c.add_scaled.new.self
    ≡ row_sum row (scaled_row a.c (known_row a.self.now a.old.node a.old.key)) =
    c.add_scaled.ensures
    ∙ ap (λ r. row_sum r (scaled_row a.c c.known_row.result.now)) c.swap_row.ensures.row
    ∙ ap (λ x. row_sum row (scaled_row a.c x)) one in
    ap length added ∙ length-added row _ a.c c.requires.old_length ∙ c.requires.new_length
    ∙ ap length (sym other)

pub swap_row-requires-2-clause-there : goal.swap_row-requires-2-clause-there
swap_row-requires-2-clause-there c =
    ap (λ s. has s c.args.to c.args.key) c.swap_row.ensures.after
    ∙ has-with_row_here c.args.self.now c.args.to c.args.key _ c.requires.to

pub returns-clause-after : goal.returns-clause-after
returns-clause-after c =
    let a = c.args in
    let row = known_row a.self.now a.to a.key in
    let old_row = known_row a.self.now a.old.node a.old.key in
    let new_row = known_row a.self.now a.new.node a.new.key in
    let one : c.known_row.result.now ≡ old_row =
    c.known_row.ensures.row ∙ ap (λ s. known_row s a.old.node a.old.key) c.swap_row.ensures.after
    ∙ known_row-with_row_other a.self.now a.to a.key _ a.old c.requires.to c.requires.old_other
    in
    let other : c.known_row-2.result.now ≡ new_row =
    c.known_row-2.ensures.row ∙ ap (λ s. known_row s a.new.node a.new.key) c.swap_row.ensures.after
    ∙ known_row-with_row_other a.self.now a.to a.key _ a.new c.requires.to c.requires.new_other
    in
    let added : c.add_scaled.new.self ≡ row_sum row (scaled_row a.c old_row) =
    c.add_scaled.ensures
    ∙ ap (λ r. row_sum r (scaled_row a.c c.known_row.result.now)) c.swap_row.ensures.row
    ∙ ap (λ x. row_sum row (scaled_row a.c x)) one in
    let changed : c.add_scaled-2.new.self ≡ row_sum row (scaled_row a.c (row_sum old_row new_row)) =
    c.add_scaled-2.ensures ∙ ap (λ r. row_sum r (scaled_row a.c c.known_row-2.result.now)) added
    ∙ ap (λ x. row_sum (row_sum row (scaled_row a.c old_row)) (scaled_row a.c x)) other
    ∙ scaled_one_by_one row old_row new_row a.c in
    c.swap_row-2.ensures.after
    ∙ ap (λ s. with_row s a.to a.key c.add_scaled-2.new.self) c.swap_row.ensures.after
    ∙ with_row-with_row a.self.now a.to a.key _ c.add_scaled-2.new.self c.requires.to
    ∙ ap (λ r. with_row a.self.now a.to a.key r) changed
