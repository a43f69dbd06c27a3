use Rattle.std.proofs.Common.{sym, ap, ◌∙◌, subst, arith}
use Rattle.std.proofs.lemmas.Bool.{false≢true}
use Rattle.cb_member.specs.Membership.{Membership}
use Rattle.cb_set.specs.Lost.{NodesAreMembers}
use Rattle.cb_world.specs.FarState.{FarState}
use Rattle.cb_world.proofs.Laws.{are_members}
use Rattle.cb_compact.proofs.Choosing.{kept_inside, no_candidate_kept, no_candidate_lost}
use Rattle.cb_compact.proofs.candidates.whole_set.Goals as goal
use Rattle.cb_compact.proofs.candidates.whole_set.Goals.{then-not-kept-via-then-not-kept, then-not-kept-via-else-not-kept+then-not-whole}

pub whole-requires : goal.whole-requires
whole-requires c =
    let far = c.args.far.now in let id = c.args.id in
    let there = kept_inside far id c.args.kept.now _ c.requires.kept c.kept.view_is
    c.if-not-kept.false in
    subst (λ (m : Membership). NodesAreMembers m c.kept.inside.set.shards)
    (sym (ap (λ (q : FarState). q.members) c.far.view_is))
    (are_members far.members c.kept.inside.set
    (c.requires.sound.1.sets.shaped id c.kept.inside.set there))

pub live_mask-requires : goal.live_mask-requires
live_mask-requires c =
    let far = c.args.far.now in let id = c.args.id in
    let there = kept_inside far id c.args.kept.now _ c.requires.kept c.kept.view_is
    c.if-not-kept.false in
    let most = (c.requires.sound.1.sets.shaped id c.kept.inside.set there).range.data_most in
    omega (arith, most)

pub returns-then-not-kept-clause-none : goal.returns-then-not-kept-clause-none
returns-then-not-kept-clause-none c =
    elim c.then-not-kept.branch [
      | then-not-kept-via-then-not-kept w ↦ no_candidate_kept c.args.far.now c.args.id
          c.args.kept.now _ c.requires.kept c.kept.view_is w.if-not-kept.true
      | then-not-kept-via-else-not-kept+then-not-whole w ↦ no_candidate_lost c.args.far.now
          c.far.inside.members c.args.id c.args.kept.now _ c.requires.kept c.kept.view_is
          (ap (λ (q : FarState). q.members) c.far.view_is) w.if-not-kept.false
          (λ whole. false≢true (sym w.if-not-whole.true ∙ w.whole.ensures.1 whole))
    ]
