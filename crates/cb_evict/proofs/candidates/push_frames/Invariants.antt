use Rattle.std.proofs.Common.{◌≡◌, ◌++◌}
use Rattle.std.specs.List.{filter, range_with_len}
use Rattle.cb_evict.specs.Candidates.{may_leave_by}
use Rattle.cb_evict.proofs.candidates.push_frames.Given as goal

-- the frames before this one were looked at
abbrev pub invariant-loop-frame : goal.invariant-loop-frame
invariant-loop-frame l = l.into.items
    ≡ l.fn.into.items ++ filter (may_leave_by l.spans l.leaving l.temp) (range_with_len 0 l.frame)
