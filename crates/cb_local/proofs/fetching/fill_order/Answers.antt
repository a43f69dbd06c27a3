use Rattle.std.proofs.Common.{ap, sym, ◌∙◌, subst}
use Rattle.cb_node.specs.NodesState.{NodesState}
use Rattle.cb_set.specs.SetState.{SetState}
use Rattle.cb_world.specs.FarState.{FarState}
use Rattle.cb_world.specs.Joining.{JoiningState}
use Rattle.cb_compact.proofs.Laws.{as_fresh, unwrapped}
use Rattle.cb_local.specs.Fetching.{AreFetched, CanFetch, IsOrderFetched}
use Rattle.cb_local.proofs.Fetched.{can_fetch, is_fetched}
use Rattle.cb_local.proofs.fetching.fill_order.Goals as goal

pub fetch_rows-requires-clause-ready : goal.fetch_rows-requires-clause-ready
fetch_rows-requires-clause-ready c =
    let x = c.requires.ready in let order = c.args.order.now in let far = c.args.far.now in
    subst (λ (n : NodesState). CanFetch n c.unwrap-pair.result.now order)
    (ap (λ (f : FarState). f.nodes) (sym c.far.view_is))
    (subst (λ (p : JoiningState). CanFetch far.nodes p order) (unwrapped c.as_ref.result
    c.unwrap-pair.result c.far.inside.joining x.1 c.as_ref.ensures.value c.unwrap-pair.ensures
    (ap (λ (f : FarState). f.joining) c.far.view_is ∙ x.4.fresh.was))
    (can_fetch x.0 far x.1 x.2 x.3 x.4 order x.5))

pub returns-clause-order : goal.returns-clause-order
returns-clause-order c pair a b fresh =
    let x = c.requires.ready in let order = c.args.order.now in let far = c.args.far.now in
    let new = c.fetch_rows.new.order in
    as_fresh far x.1 pair x.2 x.3 a b (λ (p : JoiningState) (d e : SetState).
    IsOrderFetched far p d e new) x.4.fresh fresh
    (is_fetched x.0 far x.1 x.2 x.3 x.4 order x.5 new
    (subst (λ (n : NodesState). AreFetched n x.1 order new)
    (ap (λ (f : FarState). f.nodes) c.far.view_is)
    (subst (λ (p : JoiningState). AreFetched c.far.inside.nodes p order new)
    (sym (unwrapped c.as_ref.result
    c.unwrap-pair.result c.far.inside.joining x.1 c.as_ref.ensures.value c.unwrap-pair.ensures
    (ap (λ (f : FarState). f.joining) c.far.view_is ∙ x.4.fresh.was)))
    c.fetch_rows.ensures.rows)))
