use Rattle.std.proofs.Common.{ℕ, List, sym, ap, ◌∙◌, subst}
use Rattle.cb_world.specs.declared.groups.Group.{Group}
use Rattle.cb_world.specs.Groups.{AreGrouped}
use Rattle.cb_compact.specs.Candidates.{groups_of}
use Rattle.cb_compact.proofs.Learned.{all_grouped}
use Rattle.cb_compact.proofs.candidates.keep_firsts.Goals as goal

pub keep_groups-requires : goal.keep_groups-requires
keep_groups-requires c =
    let s = c.requires.sound in let far = c.args.far.now in let firsts = c.args.firsts.now in
    let others = firsts.others.items in
    subst (λ (l : List ℕ). AreGrouped far.sets c.in-Ok.groups.items l)
    (sym c.deref-in-Ok.ensures.value)
    (subst (λ (groups : List Group). AreGrouped far.sets groups others)
    (sym (c.in-Ok.ensures ∙ ap groups_of c.deref.ensures.value))
    (all_grouped s.0 far s.1 firsts.found.items c.requires.found others c.requires.none
    c.requires.others))
