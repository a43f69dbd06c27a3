use Rattle.std.proofs.Common.{take}
use Rattle.cb_evict.specs.Candidates.{AreFlags}
use Rattle.cb_evict.proofs.candidates.flag_frames.Given as goal

-- the frames so far are flagged
abbrev pub invariant-loop-frame : goal.invariant-loop-frame
invariant-loop-frame l = AreFlags (take l.frame-index l.frames) l.count l.flags.items
