use Rattle.cb_core.specs.Turned.{MakeLacks, Makes}
use Rattle.cb_core.proofs.Composing.{holding}
use Rattle.cb_core.proofs.Winning.{IsWinning}
use Rattle.cb_core.proofs.bringing.make_with_room.Given as goal

-- as many evictions were made as times was tried
abbrev pub invariant-loop : goal.invariant-loop
invariant-loop g l = let c = g.D.Desk.settings l.fn.desk in
    IsWinning g.D.Desk.run g.D.Desk.shows
    (λ d. g.D.Desk.settings d) c
    (Makes g.D.Desk.run g.D.Desk.shows c l.bytes)
    (MakeLacks g.D.Desk.run c l.bytes) (holding l.fn.desk l.fn.far)
    (holding l.desk l.far) l.counter
