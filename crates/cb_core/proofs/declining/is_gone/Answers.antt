use Rattle.std.proofs.Common.{◌≡◌, Some, sym, ap, ◌∙◌, subst}
use Rattle.cb_member.specs.Membership.{Membership}
use Rattle.cb_set.specs.Lost.{NodesAreMembers}
use Rattle.cb_world.specs.Sets.{set_in}
use Rattle.cb_world.specs.FarState.{FarState}
use Rattle.cb_world.proofs.Laws.{are_members}
use Rattle.cb_core.proofs.declining.is_gone.Goals as goal

pub lost_count-requires : goal.lost_count-requires
lost_count-requires c =
    let far = c.args.far.now in let id = c.in-Some.home.set in
    let set = c.in-Some-committed.set.now in
    let there : set_in far.sets id ≡ Some set =
    ap (λ (q : FarState). set_in q.sets id) (sym c.far.view_is) ∙ sym c.in-Some-committed.ensures in
    subst (λ (m : Membership). NodesAreMembers m set.shards)
    (sym (ap (λ (q : FarState). q.members) c.far.view_is))
    (are_members far.members set (c.requires.sound.1.sets.shaped id set there))
