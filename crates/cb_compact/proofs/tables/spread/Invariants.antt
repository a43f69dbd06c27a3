use Rattle.cb_compact.proofs.Within.{Spread}
use Rattle.cb_compact.proofs.tables.spread.Given as goal

-- the entries below this one are marked where one within them was; no mark is lost
abbrev pub invariant-loop-mask : goal.invariant-loop-mask
invariant-loop-mask l = Spread l.k l.fn.marks l.marks l.mask
