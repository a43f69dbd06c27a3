use Rattle.std.proofs.Common.{◌≡◌, sym, ap, ◌∙◌, subst}
use Rattle.cb_member.specs.Membership.{Membership}
use Rattle.cb_set.specs.SetState.{SetState}
use Rattle.cb_set.specs.Lost.{NodesAreMembers}
use Rattle.cb_world.specs.Sets.{set_in}
use Rattle.cb_world.specs.FarState.{FarState}
use Rattle.cb_world.proofs.Laws.{are_members}
use Rattle.cb_swapin.proofs.Committed.{found_set}
use Rattle.cb_swapin.proofs.swapping.losses.Goals as goal

pub lost_count-requires : goal.lost_count-requires
lost_count-requires c =
    let far = c.args.far.now in let there = c.requires.there in let set = there.0 in
    let same : c.unwrap-set.result.now ≡ set =
    found_set c.committed.result c.unwrap-set.result _ set c.committed.ensures c.unwrap-set.ensures
    (ap (λ (q : FarState). set_in q.sets c.args.id.n) c.far.view_is ∙ there.1) in
    subst (λ (m : Membership). NodesAreMembers m c.unwrap-set.result.now.shards)
    (sym (ap (λ (q : FarState). q.members) c.far.view_is))
    (subst (λ (x : SetState). NodesAreMembers far.members x.shards) (sym same)
    (are_members far.members set (c.requires.sound.1.sets.shaped c.args.id.n set there.1)))

pub lost-requires : goal.lost-requires
lost-requires c =
    let far = c.args.far.now in let there = c.requires.there in let set = there.0 in
    let same : c.unwrap-set.result.now ≡ set =
    found_set c.committed.result c.unwrap-set.result _ set c.committed.ensures c.unwrap-set.ensures
    (ap (λ (q : FarState). set_in q.sets c.args.id.n) c.far.view_is ∙ there.1) in
    subst (λ (m : Membership). NodesAreMembers m c.unwrap-set.result.now.shards)
    (sym (ap (λ (q : FarState). q.members) c.far.view_is))
    (subst (λ (x : SetState). NodesAreMembers far.members x.shards) (sym same)
    (are_members far.members set (c.requires.sound.1.sets.shaped c.args.id.n set there.1)))
