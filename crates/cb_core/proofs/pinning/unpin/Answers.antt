use Rattle.std.proofs.Common.{◌<◌, length, sym, subst}
use Rattle.cb_world.specs.World.{WorldState, ArePinned}
use Rattle.cb_world.proofs.Laws.{pin_counts}
use Rattle.cb_core.proofs.pinning.unpin.Goals as goal

pub unpin-requires-clause-pinned : goal.unpin-requires-clause-pinned
unpin-requires-clause-pinned c =
    pin_counts c.world.inside.desk c.world.inside.seats c.args.seat c.in-Some.at c.args.h.n
    (subst (λ (w : WorldState). ArePinned w.desk w.seats) (sym c.world.view_is) c.requires.pinned)
    c.requires.seat c.in-Some.ensures.found
    (subst (λ (w : WorldState). c.args.h.n < length w.desk.words) (sym c.world.view_is)
    (rw c.requires.sized c.requires.handle))
