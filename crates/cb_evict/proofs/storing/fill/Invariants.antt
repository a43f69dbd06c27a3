use Rattle.cb_evict.proofs.Filling.{ArePositionsFilled}
use Rattle.cb_evict.proofs.storing.fill.Given as goal

-- the earlier positions were filled
abbrev pub invariant-loop-p : goal.invariant-loop-p
invariant-loop-p l = ArePositionsFilled l.spans l.frames l.p l.fn.set l.set
