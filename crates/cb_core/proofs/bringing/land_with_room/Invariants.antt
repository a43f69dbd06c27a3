use Rattle.cb_core.proofs.Composing.{holding}
use Rattle.cb_core.proofs.LandRooms.{IsLandingOn}
use Rattle.cb_core.proofs.bringing.land_with_room.Given as goal

-- as many evictions were made as times was tried, and the order is kept
abbrev pub invariant-loop : goal.invariant-loop
invariant-loop g l = IsLandingOn g.D.Desk.run g.D.Desk.shows
    (λ d. g.D.Desk.settings d) (g.D.Desk.settings l.fn.desk) l.fn.done (holding l.fn.desk l.fn.far)
    (holding l.desk l.far) l.counter
