use Rattle.std.proofs.Common.{ap, sym, ◌∙◌}
use Rattle.cb_world.specs.FarState.{FarState}
use Rattle.cb_world.specs.Homes.{home_at}
use Rattle.cb_core.proofs.OrderTurns.{ok_map}
use Rattle.cb_core.proofs.PartsFar.{live_home}
use Rattle.cb_core.proofs.fetching.rows_of_home.Goals as goal

pub fetch_rows-requires-clause-live : goal.fetch_rows-requires-clause-live
fetch_rows-requires-clause-live c =
    let at = ap (λ (q : FarState). home_at q.homes c.args.h.n) (sym c.far.view_is)
    ∙ sym c.at.ensures.home ∙ c.unwrap-home.ensures in
    live_home c.requires.sound.0 c.args.far.now c.args.h.n c.unwrap-home.result c.requires.sound.1 at

pub returns-clause-step : goal.returns-clause-step
returns-clause-step c =
    let at = ap (λ (q : FarState). home_at q.homes c.args.h.n) (sym c.far.view_is)
    ∙ sym c.at.ensures.home ∙ c.unwrap-home.ensures in
    ok_map _ _ c.fetch_rows.result c.fetch_rows.ensures.step
    (λ g step. (c.unwrap-home.result, at, step))
