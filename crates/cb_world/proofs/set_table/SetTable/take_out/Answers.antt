use Rattle.std.proofs.Common.{◌≡◌, ◌<◌, true, false, IfSome, length, is_some, ap, sym, ◌∙◌, subst, Option}
use Rattle.std.specs.Option.{option_copied_mut}
use Rattle.std.specs.Ordering.{nat_cmp}
use Rattle.std.specs.BTreeMap as tree
use Rattle.std.specs.FinMap as map
use Rattle.std.proofs.lemmas.Bool.{false≢true}
use Rattle.cb_node.proofs.Laws.{view, get-view, view-insert}
use Rattle.cb_set.specs.SetState.{position_of, with_position, without_object}
use Rattle.cb_world.specs.Sets.{Kept}
use Rattle.cb_world.proofs.SetChanging.{kept_same}
use Rattle.cb_world.proofs.set_table.SetTable.take_out.Goals as goal
use Rattle.cb_world.proofs.set_table.SetTable.take_out.Goals.{in-Some, in_default}

pub take_out-requires : goal.take_out-requires
take_out-requires c =
    subst (λ (o : Option Kept). IfSome o (λ k. c.args.position < length k.set.positions))
    (ap (λ m. map.get m c.args.id) (sym c.self.view_is) ∙ get-view c.self.inside.sets c.args.id
    ∙ sym c.get_mut.ensures.value ∙ ap option_copied_mut c.in-Some.is) c.requires

pub returns-clause-taken : goal.returns-clause-taken
returns-clause-taken c kept at =
    let sets = c.self.inside.sets in
    let id = c.args.id in
    let there : is_some (tree.get nat_cmp sets id) ≡ true =
    ap is_some (sym (get-view sets id) ∙ ap (λ m. map.get m id) c.self.view_is ∙ at) in
    elim c.match-get_mut.branch [
      | in-Some w ↦
          let written = c.get_mut.follows.holds w.take_out.new.self in
          let done = view-insert sets (c.get_mut.follows.lender w.take_out.new.self) id w.take_out.new.self
          (written.3 there) in
          let old : w.in-Some.kept.now ≡ kept = kept_same w.in-Some.kept.now kept
          (sym (ap option_copied_mut w.in-Some.is) ∙ c.get_mut.ensures.value
          ∙ sym (get-view sets id) ∙ ap (λ m. map.get m id) c.self.view_is ∙ at) in
          rw w.self-inside-is (done
          ∙ ap (λ x. map.insert (view sets) id x) (w.take_out.ensures
          ∙ ap (λ (k : Kept). record k {
            set = with_position k.set c.args.position (without_object (position_of k.set c.args.position) c.args.slot);
          }) old)
          ∙ ap (λ m. map.insert m id (record kept {
            set = with_position kept.set c.args.position (without_object (position_of kept.set c.args.position) c.args.slot);
          })) c.self.view_is)
      | in_default w ↦ absurd
          (false≢true (sym (ap (λ r. is_some (option_copied_mut r)) w.in_default.is)
          ∙ ap is_some c.get_mut.ensures.value ∙ there))
    ]

pub returns-clause-none : goal.returns-clause-none
returns-clause-none c none =
    let sets = c.self.inside.sets in
    let id = c.args.id in
    let absent : is_some (tree.get nat_cmp sets id) ≡ false =
    ap is_some (sym (get-view sets id) ∙ ap (λ m. map.get m id) c.self.view_is ∙ none) in
    elim c.match-get_mut.branch [
      | in-Some w ↦ absurd (false≢true (sym absent ∙ sym (ap is_some c.get_mut.ensures.value)
          ∙ ap (λ r. is_some (option_copied_mut r)) w.in-Some.is))
      | in_default w ↦ rw w.self-inside-is (ap view c.get_mut.follows.holds-at-none ∙ c.self.view_is)
    ]
