use Rattle.std.proofs.Common.{◌≡◌, length, take}
use Rattle.cb_local.proofs.fetching.positions_of.Given as goal

abbrev pub invariant-loop-i : goal.invariant-loop-i
invariant-loop-i l = (length l.found ≡ 20) × (take l.i l.found ≡ take l.i l.taken)
