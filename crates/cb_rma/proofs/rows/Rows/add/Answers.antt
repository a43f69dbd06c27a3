use Rattle.std.proofs.Common.{◌≡◌, ℕ, List, Option, is_some, ap, sym, ◌∙◌}
use Rattle.std.specs.Option.{option_copied_mut}
use Rattle.std.specs.Ordering.{nat_cmp}
use Rattle.std.specs.BTreeMap as tree
use Rattle.std.specs.FinMap as map
use Rattle.cb_node.specs.Rows.{RowsByKey}
use Rattle.cb_node.proofs.Laws.{view, get-view, view-insert}
use Rattle.cb_rma.specs.Rows.{with_sum}
use Rattle.cb_rma.proofs.rows.Rows.add.Goals as goal
use Rattle.cb_rma.proofs.rows.Rows.add.Goals.{in-Some, in_default}

pub returns : goal.returns
returns c =
    let rows = c.self.inside.by_key in
    let key = c.args.key in
    let here : map.get c.args.self.now key ≡ tree.get nat_cmp rows key =
    ap (λ (m : RowsByKey). map.get m key) (sym c.self.view_is) ∙ get-view rows key in
    elim c.match-get_mut.branch [
      | in-Some w ↦
          let x = w.add_where_alike.new.kept in
          let got = sym c.get_mut.ensures.value ∙ ap option_copied_mut w.in-Some.is in
          let kept = view-insert rows (c.get_mut.follows.lender x) key x
          ((c.get_mut.follows.holds x).3 (ap is_some got)) in
          rw w.self-inside-is (kept ∙ ap (λ (m : RowsByKey). map.insert m key x) c.self.view_is
          ∙ ap (λ (row : List ℕ). map.insert c.args.self.now key row) w.add_where_alike.ensures
          ∙ sym (ap (λ (o : Option (List ℕ)). with_sum c.args.self.now key c.args.c c.args.row.now o)
          (here ∙ got)))
      | in_default w ↦
          let got = sym c.get_mut.ensures.value ∙ ap option_copied_mut w.in_default.is in
          rw w.self-inside-is (ap (λ m. view m) c.get_mut.follows.holds-at-none ∙ c.self.view_is
          ∙ sym (ap (λ (o : Option (List ℕ)). with_sum c.args.self.now key c.args.c c.args.row.now o)
          (here ∙ got)))
    ]
