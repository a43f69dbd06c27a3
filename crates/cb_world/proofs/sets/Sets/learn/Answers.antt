use Rattle.std.proofs.Common.{sym, ap, subst}
use Rattle.cb_world.specs.declared.groups.Group.{Group}
use Rattle.cb_world.specs.Groups.{AreGrouped, IsAmong, NoGroupsMatch}
use Rattle.cb_world.specs.Sets.{SetMap}
use Rattle.cb_world.proofs.Grouped.{all_grouped}
use Rattle.cb_world.proofs.sets.Sets.learn.Goals as goal

pub add_sets-self-inside-requires : goal.add_sets-self-inside-requires
add_sets-self-inside-requires c = record {
  none = subst NoGroupsMatch (sym (ap (λ v. v.items) c.replace.ensures.list)) c.requires.apart;
}

pub invariant_of-self : goal.invariant_of-self
invariant_of-self c known =
    let table = c.self.inside.table in let old = c.args.groups.items in
    let added = c.add_sets-self-inside in
    let grouped = subst (λ (m : SetMap). AreGrouped m old c.args.others.now) (sym c.self.view_is)
    c.requires in
    let keeps : (g : Group) → IsAmong g old → IsAmong g added.new.groups.items =
    λ g among. added.ensures.keeps g
    (subst (IsAmong g) (sym (ap (λ v. v.items) c.replace.ensures.list)) among) in
    subst (AreGrouped table added.new.groups.items) (sym c.replace.ensures.changed)
    (all_grouped table old added.new.groups.items c.args.others.now grouped added.ensures.none
    keeps (added.ensures.among known))
