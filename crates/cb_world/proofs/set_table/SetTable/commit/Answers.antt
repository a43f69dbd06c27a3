use Rattle.std.proofs.Common.{◌≡◌, true, false, is_some, ap, sym, ◌∙◌}
use Rattle.std.specs.Option.{option_copied_mut}
use Rattle.std.specs.Ordering.{nat_cmp}
use Rattle.std.specs.BTreeMap as tree
use Rattle.std.specs.FinMap as map
use Rattle.std.proofs.lemmas.Bool.{false≢true}
use Rattle.cb_node.proofs.Laws.{view, get-view, view-insert}
use Rattle.cb_world.specs.Sets.{Kept}
use Rattle.cb_world.proofs.SetChanging.{kept_same}
use Rattle.cb_world.proofs.set_table.SetTable.commit.Goals as goal
use Rattle.cb_world.proofs.set_table.SetTable.commit.Goals.{in-Some, in_default}

pub returns-clause-committed : goal.returns-clause-committed
returns-clause-committed c kept at =
    let sets = c.self.inside.sets in
    let id = c.args.id in
    let there : is_some (tree.get nat_cmp sets id) ≡ true =
    ap is_some (sym (get-view sets id) ∙ ap (λ m. map.get m id) c.self.view_is ∙ at) in
    elim c.match-get_mut.branch [
      | in-Some w ↦
          let written = c.get_mut.follows.holds w.commit.new.self in
          let done = view-insert sets (c.get_mut.follows.lender w.commit.new.self) id w.commit.new.self
          (written.3 there) in
          let old : w.in-Some.kept.now ≡ kept = kept_same w.in-Some.kept.now kept
          (sym (ap option_copied_mut w.in-Some.is) ∙ c.get_mut.ensures.value
          ∙ sym (get-view sets id) ∙ ap (λ m. map.get m id) c.self.view_is ∙ at) in
          rw w.self-inside-is (done
          ∙ ap (λ x. map.insert (view sets) id x) (w.commit.ensures
          ∙ ap (λ (k : Kept). record k { committed = true }) old)
          ∙ ap (λ m. map.insert m id (record kept { committed = true })) c.self.view_is)
      | in_default w ↦ absurd
          (false≢true (sym (ap (λ r. is_some (option_copied_mut r)) w.in_default.is)
          ∙ ap is_some c.get_mut.ensures.value ∙ there))
    ]

pub returns-clause-none : goal.returns-clause-none
returns-clause-none c none =
    let sets = c.self.inside.sets in
    let id = c.args.id in
    let absent : is_some (tree.get nat_cmp sets id) ≡ false =
    ap is_some (sym (get-view sets id) ∙ ap (λ m. map.get m id) c.self.view_is ∙ none) in
    elim c.match-get_mut.branch [
      | in-Some w ↦ absurd (false≢true (sym absent ∙ sym (ap is_some c.get_mut.ensures.value)
          ∙ ap (λ r. is_some (option_copied_mut r)) w.in-Some.is))
      | in_default w ↦ rw w.self-inside-is (ap view c.get_mut.follows.holds-at-none ∙ c.self.view_is)
    ]
