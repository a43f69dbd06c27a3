use Rattle.cb_core.specs.Turned.{SwapLacks, Swaps}
use Rattle.cb_core.proofs.Composing.{holding}
use Rattle.cb_core.proofs.Winning.{IsWinning}
use Rattle.cb_core.proofs.bringing.bring.Given as goal

-- as many evictions were made as times was tried
abbrev pub invariant-loop : goal.invariant-loop
invariant-loop g l = IsWinning g.D.Desk.run g.D.Desk.shows
    (λ d. g.D.Desk.settings d) (g.D.Desk.settings l.fn.desk)
    (Swaps g.D.Desk.run g.D.Desk.shows l.fn.h.n)
    (SwapLacks g.D.Desk.run l.fn.h.n) (holding l.fn.desk l.fn.far)
    (holding l.desk l.far) l.counter
