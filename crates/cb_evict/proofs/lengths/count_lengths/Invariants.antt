use Rattle.std.proofs.Common.{◌≡◌, ◌≤◌, suc, take}
use Rattle.cb_evict.specs.Lengths.{AreFew, AreLengthCounts}
use Rattle.cb_evict.proofs.lengths.count_lengths.Given as goal

-- the spans in the earlier frames were counted
abbrev pub invariant-loop-frame : goal.invariant-loop-frame
invariant-loop-frame l =
    AreLengthCounts l.spans (take l.frame-index l.frames) l.counts
    × AreFew (suc l.frame-index) l.counts
