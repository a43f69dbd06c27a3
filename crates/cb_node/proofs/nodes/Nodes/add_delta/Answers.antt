use Rattle.std.proofs.Common.{refl, ap, sym, ◌∙◌}
use Rattle.cb_gf256.specs.Row.{row_sum, scaled_row}
use Rattle.cb_gf256.proofs.PublicLaws.{row_sum_commutes}
use Rattle.cb_node.specs.NodesState.{known_row, with_row}
use Rattle.cb_node.proofs.Put.{with_row-known_row}
use Rattle.cb_node.proofs.Deltas.{known_row-named, own_change_is_none}
use Rattle.cb_node.proofs.nodes.Nodes.add_delta.Goals as goal

pub returns-in-true-true-clause-after : goal.returns-in-true-true-clause-after
returns-in-true-true-clause-after c =
    let a = c.args in
    let row = known_row a.self.now a.to a.key in
    let old_row = known_row-named a.self.now a.old a.to a.key (c.in-true-true.ensures.0 refl) in
    let new_row = known_row-named a.self.now a.new a.to a.key (c.in-true-true.ensures'.0 refl) in
    sym (ap (λ x. with_row a.self.now a.to a.key
    (row_sum row (scaled_row a.c
    (row_sum x (known_row a.self.now a.new.node a.new.key))))) old_row
    ∙ ap (λ x. with_row a.self.now a.to a.key
    (row_sum row (scaled_row a.c (row_sum row x)))) new_row
    ∙ ap (λ x. with_row a.self.now a.to a.key x) (own_change_is_none row a.c)
    ∙ with_row-known_row a.self.now a.to a.key c.requires.target)

pub returns-in-false-true-clause-after : goal.returns-in-false-true-clause-after
returns-in-false-true-clause-after c =
    let a = c.args in
    let row = known_row a.self.now a.to a.key in
    let old_row = known_row a.self.now a.old.node a.old.key in
    let new_row = known_row-named a.self.now a.new a.to a.key (c.in-false-true.ensures'.0 refl) in
    c.add_own_change-in-false-true.ensures.after
    ∙ ap (λ x. with_row a.self.now a.to a.key (row_sum row (scaled_row a.c x)))
    (row_sum_commutes row old_row ∙ ap (λ x. row_sum old_row x) (sym new_row))
