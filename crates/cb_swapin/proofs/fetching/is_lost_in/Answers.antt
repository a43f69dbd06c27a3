use Rattle.std.proofs.Common.{◌≡◌, ◌<◌, length, sym, ap, ◌∙◌, subst, arith}
use Rattle.cb_set.specs.SetState.{SetState}
use Rattle.cb_set.specs.Lost.{NodesAreMembers, lost_at}
use Rattle.cb_world.specs.Sets.{set_in}
use Rattle.cb_world.specs.FarState.{FarState}
use Rattle.cb_world.proofs.Laws.{are_members}
use Rattle.cb_swapin.proofs.Committed.{found_set, live_within}
use Rattle.cb_swapin.proofs.fetching.is_lost_in.Goals as goal

pub lost_at-requires-clause-position : goal.lost_at-requires-clause-position
lost_at-requires-clause-position c =
    let far = c.args.far.now in let live = c.requires.live in let set = live.0 in
    let same : c.unwrap.result.now ≡ set =
    found_set c.committed.result c.unwrap.result _ set c.committed.ensures c.unwrap.ensures
    (ap (λ (q : FarState). set_in q.sets c.args.id.n) c.far.view_is ∙ live.1) in
    subst (λ (y : SetState). c.args.position < length y.shards) (sym same)
    (let within = live_within set c.args.position live.2 in
    let first = (c.requires.sound.1.sets.shaped c.args.id.n set live.1).data_first in
    omega (arith, within, first))

pub lost_at-requires-clause-nodes : goal.lost_at-requires-clause-nodes
lost_at-requires-clause-nodes c =
    let far = c.args.far.now in let live = c.requires.live in let set = live.0 in
    let same : c.unwrap.result.now ≡ set =
    found_set c.committed.result c.unwrap.result _ set c.committed.ensures c.unwrap.ensures
    (ap (λ (q : FarState). set_in q.sets c.args.id.n) c.far.view_is ∙ live.1) in
    subst (λ (q : FarState). NodesAreMembers q.members c.unwrap.result.now.shards)
    (sym c.far.view_is) (subst (λ (y : SetState). NodesAreMembers far.members y.shards) (sym same)
    (are_members far.members set (c.requires.sound.1.sets.shaped c.args.id.n set live.1)))

pub returns : goal.returns
returns c = λ set there.
    let same : c.unwrap.result.now ≡ set =
    found_set c.committed.result c.unwrap.result _ set c.committed.ensures c.unwrap.ensures
    (ap (λ (q : FarState). set_in q.sets c.args.id.n) c.far.view_is ∙ there) in
    c.lost_at.ensures
    ∙ ap (λ (q : FarState). lost_at q.members c.unwrap.result.now.shards c.args.position)
    c.far.view_is
    ∙ ap (λ (y : SetState). lost_at c.args.far.now.members y.shards c.args.position) same
