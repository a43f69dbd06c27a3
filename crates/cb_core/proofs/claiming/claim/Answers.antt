use Rattle.std.proofs.Common.{◌<◌, sym, subst}
use Rattle.cb_world.specs.World.{WorldState, IsSoundWorld}
use Rattle.cb_core.proofs.ClaimAnswers.{here_within}
use Rattle.cb_core.proofs.claiming.claim.Goals as goal

pub open_write-requires-clause-within : goal.open_write-requires-clause-within
open_write-requires-clause-within c =
    let w : WorldState =
    record { desk = c.world.inside.desk; far = c.world.inside.far; seats = c.world.inside.seats } in
    here_within w c.args.h.n (subst IsSoundWorld (sym c.world.view_is) c.requires.sound)
    (subst (λ (v : WorldState). c.args.h.n < v.desk.settings.handles) (sym c.world.view_is)
    c.requires.handle) c.in_default.ensures.none.free.0
