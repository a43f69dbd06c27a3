use Rattle.std.proofs.Common.{List, length, sym, ap, ◌∙◌, subst}
use Rattle.std.specs.List.{slice_get}
use Rattle.cb_world.specs.declared.groups.Group.{Group}
use Rattle.cb_world.specs.Groups.{IsAmong}
use Rattle.cb_world.proofs.Grouped.{among_last, among_more, one_group_more}
use Rattle.cb_world.proofs.groups.add_group.Goals as goal

pub returns-in-Ok-clause-none : goal.returns-in-Ok-clause-none
returns-in-Ok-clause-none c =
    let groups = c.args.groups.now.items in
    one_group_more groups c.push.new.self.items c.args.group c.requires.none
    (λ g among. c.matches_any.ensures c.if-matches_any.false g
    (subst (IsAmong g) (sym c.deref-else-do_match.ensures.value) among))
    (c.do_match.ensures c.if-do_match.false) c.in-Ok.ensures.items

pub returns-in-Ok-clause-keeps : goal.returns-in-Ok-clause-keeps
returns-in-Ok-clause-keeps c g (i, at) = (
  i,
  ap (λ (l : List Group). slice_get l i) c.in-Ok.ensures.items
      ∙ among_more c.args.groups.now.items c.args.group i g at,
)

pub returns-in-Ok-clause-among : goal.returns-in-Ok-clause-among
returns-in-Ok-clause-among c done =
    let groups = c.args.groups.now.items in (
      length groups,
      ap (λ (l : List Group). slice_get l (length groups)) c.in-Ok.ensures.items
          ∙ among_last groups c.args.group,
    )
