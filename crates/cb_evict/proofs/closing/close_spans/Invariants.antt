use Rattle.std.proofs.Common.{take}
use Rattle.cb_evict.proofs.Homing.{AreClosed}
use Rattle.cb_evict.proofs.closing.close_spans.Given as goal

-- the spans in the earlier frames were taken out
abbrev pub invariant-loop-p : goal.invariant-loop-p
invariant-loop-p l = AreClosed l.fn.far l.far (take l.p l.frames) l.set
