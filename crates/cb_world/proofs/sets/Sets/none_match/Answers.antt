use Rattle.std.proofs.Common.{sym, subst}
use Rattle.cb_world.specs.Groups.{IsAmong, NoSetsMatch}
use Rattle.cb_world.proofs.Grouped.{all_grouped, grouped_none}
use Rattle.cb_world.proofs.sets.Sets.none_match.Goals as goal

pub returns-clause-none : goal.returns-clause-none
returns-clause-none c done =
    let old = c.self.inside in let groups = c.add_sets.new.groups.items in
    subst NoSetsMatch c.self.view_is (grouped_none old.table groups
    (all_grouped old.table old.groups.list.items groups old.groups.changed.items
    (c.self.invariant c.if-not-self.false) c.add_sets.ensures.none c.add_sets.ensures.keeps
    (λ id set among at. c.add_sets.ensures.among c.if-not-add_sets.false id set
    (subst (IsAmong id) (sym c.as_slice-changed.ensures.value) among) at)))
