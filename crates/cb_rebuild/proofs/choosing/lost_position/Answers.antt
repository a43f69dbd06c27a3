use Rattle.std.proofs.Common.{◌≡◌, IsSome, sym, ap, ◌∙◌, subst, Option, ℕ}
use Rattle.cb_member.specs.Membership.{Membership}
use Rattle.cb_set.specs.SetState.{SetState}
use Rattle.cb_set.specs.Lost.{NodesAreMembers, least_lost}
use Rattle.cb_world.specs.Sets.{set_in}
use Rattle.cb_world.specs.FarState.{FarState}
use Rattle.cb_world.proofs.Laws.{are_members}
use Rattle.cb_rebuild.proofs.WeakSets.{found_set, some_least}
use Rattle.cb_rebuild.proofs.choosing.lost_position.Goals as goal

pub least_lost-requires : goal.least_lost-requires
least_lost-requires c =
    let far = c.args.far.now in let weak = c.requires.weak in let set = weak.0 in
    let same : c.unwrap-set.result.now ≡ set =
    found_set c.committed.result c.unwrap-set.result _ set c.committed.ensures c.unwrap-set.ensures
    (ap (λ (q : FarState). set_in q.sets c.args.id) c.far.view_is ∙ weak.1) in
    subst (λ (m : Membership). NodesAreMembers m c.unwrap-set.result.now.shards)
    (sym (ap (λ (q : FarState). q.members) c.far.view_is))
    (subst (λ (x : SetState). NodesAreMembers far.members x.shards) (sym same)
    (are_members far.members set (c.requires.sound.1.sets.shaped c.args.id set weak.1)))

pub unwrap-requires : goal.unwrap-requires
unwrap-requires c =
    let far = c.args.far.now in let weak = c.requires.weak in let set = weak.0 in
    let same : c.unwrap-set.result.now ≡ set =
    found_set c.committed.result c.unwrap-set.result _ set c.committed.ensures c.unwrap-set.ensures
    (ap (λ (q : FarState). set_in q.sets c.args.id) c.far.view_is ∙ weak.1) in
    subst (λ (o : Option ℕ). IsSome o)
    (sym (c.least_lost.ensures.least
    ∙ ap (λ (q : FarState). least_lost q.members c.unwrap-set.result.now.shards) c.far.view_is
    ∙ ap (λ (x : SetState). least_lost far.members x.shards) same))
    (some_least far.members set.shards weak.2.some_lost)
