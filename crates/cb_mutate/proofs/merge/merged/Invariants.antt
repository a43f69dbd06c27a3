use Rattle.std.specs.Int.{to_le_bytes, w64}
use Rattle.cb_mutate.specs.Merged.{IsMixed}
use Rattle.cb_mutate.proofs.merge.merged.Given as goal

abbrev pub invariant-loop-j : goal.invariant-loop-j
invariant-loop-j l = IsMixed l.j (to_le_bytes w64 l.fn.old) l.fn.first l.fn.at l.fn.bytes l.all
