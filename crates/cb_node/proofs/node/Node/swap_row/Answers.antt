use Rattle.std.proofs.Common.{◌≡◌, true, Some, is_some, ap, sym, ◌∙◌}
use Rattle.std.specs.Option.{option_copied_mut}
use Rattle.std.specs.Ordering.{nat_cmp}
use Rattle.std.specs.BTreeMap as tree
use Rattle.std.specs.FinMap as map
use Rattle.std.proofs.lemmas.Bool.{false≢true}
use Rattle.cb_node.proofs.Views.{view, get-view, view-insert}
use Rattle.cb_node.proofs.node.Node.swap_row.Goals as goal
use Rattle.cb_node.proofs.node.Node.swap_row.Goals.{in-Some, in_default}

pub returns-clause-after : goal.returns-clause-after
returns-clause-after c =
    let rows = c.self.inside.rows in
    let key = c.args.key in
    let there : is_some (tree.get nat_cmp rows key) ≡ true =
    ap is_some (sym (get-view rows key)) ∙ ap (λ m. map.contains_key m key) c.self.view_is
    ∙ c.requires in
    elim c.match-get_mut.branch [
      | in-Some w ↦
          let written = c.get_mut.follows.holds w.swap.new.x in
          let kept = view-insert rows (c.get_mut.follows.lender w.swap.new.x) key w.swap.new.x
          (written.3 there) in
          rw w.self-inside-is (kept ∙ ap (λ x. map.insert (view rows) key x) w.swap.ensures.x_after
          ∙ ap (λ m. map.insert m key c.args.row.now) c.self.view_is)
      | in_default w ↦ absurd
          (false≢true (sym (ap (λ r. is_some (option_copied_mut r)) w.in_default.is)
          ∙ ap is_some c.get_mut.ensures.value ∙ there))
    ]

pub returns-clause-row : goal.returns-clause-row
returns-clause-row c =
    let rows = c.self.inside.rows in
    let key = c.args.key in
    let there : is_some (tree.get nat_cmp rows key) ≡ true =
    ap is_some (sym (get-view rows key)) ∙ ap (λ m. map.contains_key m key) c.self.view_is
    ∙ c.requires in
    elim c.match-get_mut.branch [
      | in-Some w ↦
          ap (λ m. map.get m key) (sym c.self.view_is) ∙ get-view rows key
          ∙ sym c.get_mut.ensures.value ∙ ap option_copied_mut w.in-Some.is
          ∙ ap Some (sym w.swap.ensures.y_after ∙ sym w.row-is)
      | in_default w ↦ absurd
          (false≢true (sym (ap (λ r. is_some (option_copied_mut r)) w.in_default.is)
          ∙ ap is_some c.get_mut.ensures.value ∙ there))
    ]
