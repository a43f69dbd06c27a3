use Rattle.std.proofs.Common.{◌<◌, ◌^◌, All, length, ap, ◌∙◌, subst, arith}
use Rattle.cb_world.specs.FarState.{FarState}
use Rattle.cb_world.specs.Joining.{JoiningState}
use Rattle.cb_compact.proofs.Laws.{unwrapped}
use Rattle.cb_local.proofs.Fetched.{pair_few, pair_small}
use Rattle.cb_local.proofs.fetching.new_order.Goals as goal

pub blank_order-requires-clause-few : goal.blank_order-requires-clause-few
blank_order-requires-clause-few c =
    let x = c.requires.ready in
    let e = ap (λ (p : JoiningState). length p.taken) (unwrapped c.as_ref.result
    c.unwrap-pair.result c.far.inside.joining x.1 c.as_ref.ensures.value c.unwrap-pair.ensures
    (ap (λ (f : FarState). f.joining) c.far.view_is ∙ x.4.fresh.was)) in
    let l = pair_few x.0 c.args.far.now x.1 x.2 x.3 x.4 in omega (arith, e, l)

pub blank_order-requires-clause-small : goal.blank_order-requires-clause-small
blank_order-requires-clause-small c =
    let x = c.requires.ready in
    subst (λ (p : JoiningState). All (λ q. q < 2 ^ 8) p.taken) (unwrapped c.as_ref.result
    c.unwrap-pair.result c.far.inside.joining x.1 c.as_ref.ensures.value c.unwrap-pair.ensures
    (ap (λ (f : FarState). f.joining) c.far.view_is ∙ x.4.fresh.was))
    (pair_small x.0 c.args.far.now x.1 x.2 x.3 x.4)
