use Rattle.std.proofs.Common.{◌≡◌, ◌<◌, ◌≤◌, ℕ, List, length, get_or, count_by, sym, ap, ap₂, ◌∙◌, subst}
use Rattle.cb_set.specs.SetState.{SetState, live_at}
use Rattle.cb_world.specs.FarState.{FarState}
use Rattle.cb_world.specs.Joining.{JoiningState}
use Rattle.cb_compact.proofs.Committing.{taken_inside, taken_most}
use Rattle.cb_compact.proofs.Looked.{looked_some, looked_up}
use Rattle.cb_compact.proofs.Ready.{unwrapped}
use Rattle.cb_compact.proofs.merging.moved.Goals as goal

pub unwrap-b-requires : goal.unwrap-b-requires
unwrap-b-requires c =
    let x = c.requires.ready in let v = c.far.view_is in
    let e : x.1 ≡ c.unwrap-pair.result.now = unwrapped c.as_ref.result c.unwrap-pair.result
    c.far.inside.joining x.1 c.as_ref.ensures.value c.unwrap-pair.ensures
    (ap (λ (f : FarState). f.joining) v ∙ x.4.fresh.was) in
    looked_some c.committed.result c.far.inside.sets c.args.far.now.sets c.pair.inside.b x.1.b x.3
    c.committed.ensures (ap (λ (f : FarState). f.sets) v)
    (ap (λ (q : JoiningState). q.b) (c.pair.view_is ∙ sym e)) x.4.fresh.b_stands.there

pub count_live-requires-clause-data : goal.count_live-requires-clause-data
count_live-requires-clause-data c =
    let x = c.requires.ready in let v = c.far.view_is in
    let e : x.1 ≡ c.unwrap-pair.result.now = unwrapped c.as_ref.result c.unwrap-pair.result
    c.far.inside.joining x.1 c.as_ref.ensures.value c.unwrap-pair.ensures
    (ap (λ (f : FarState). f.joining) v ∙ x.4.fresh.was) in
    let b_is = looked_up c.committed.result c.unwrap-b.result c.far.inside.sets c.args.far.now.sets
    c.pair.inside.b x.1.b x.3 c.committed.ensures c.unwrap-b.ensures (ap (λ (f : FarState).
    f.sets) v)
    (ap (λ (q : JoiningState). q.b) (c.pair.view_is ∙ sym e)) x.4.fresh.b_stands.there in
    subst (λ (l : List ℕ). (k d : ℕ) → k < length l
    → get_or l k d < length c.unwrap-b.result.now.positions)
    (ap (λ (q : JoiningState). q.taken) (e ∙ sym c.pair.view_is) ∙ sym c.deref.ensures.value)
    (subst (λ (q : SetState). (k d : ℕ) → k < length x.1.taken
    → get_or x.1.taken k d < length q.positions) (sym b_is)
    (taken_inside x.0 c.args.far.now x.1 x.2 x.3 x.4))

pub count_live-requires-clause-few : goal.count_live-requires-clause-few
count_live-requires-clause-few c =
    let x = c.requires.ready in let v = c.far.view_is in
    let e : x.1 ≡ c.unwrap-pair.result.now = unwrapped c.as_ref.result c.unwrap-pair.result
    c.far.inside.joining x.1 c.as_ref.ensures.value c.unwrap-pair.ensures
    (ap (λ (f : FarState). f.joining) v ∙ x.4.fresh.was) in
    subst (λ (l : List ℕ). length l ≤ 16)
    (ap (λ (q : JoiningState). q.taken) (e ∙ sym c.pair.view_is) ∙ sym c.deref.ensures.value)
    (taken_most x.0 c.args.far.now x.1 x.2 x.3 x.4)

pub returns : goal.returns
returns c pair a b fresh =
    let v = c.far.view_is in
    let e : pair ≡ c.unwrap-pair.result.now = unwrapped c.as_ref.result c.unwrap-pair.result
    c.far.inside.joining pair c.as_ref.ensures.value c.unwrap-pair.ensures
    (ap (λ (f : FarState). f.joining) v ∙ fresh.was) in
    let b_is = looked_up c.committed.result c.unwrap-b.result c.far.inside.sets c.args.far.now.sets
    c.pair.inside.b pair.b b c.committed.ensures c.unwrap-b.ensures (ap (λ (f : FarState).
    f.sets) v)
    (ap (λ (q : JoiningState). q.b) (c.pair.view_is ∙ sym e)) fresh.b_stands.there in
    c.count_live.ensures
    ∙ ap₂ (λ (q : SetState) (l : List ℕ). count_by (live_at q) l) b_is
    (c.deref.ensures.value ∙ ap (λ (q : JoiningState). q.taken) (c.pair.view_is ∙ sym e))
