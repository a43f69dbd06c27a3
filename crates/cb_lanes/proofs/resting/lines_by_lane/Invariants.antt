use Rattle.std.proofs.Common.{take}
use Rattle.cb_lanes.specs.LinesLeft.{AreLeft, lanes_of}
use Rattle.cb_lanes.proofs.resting.lines_by_lane.Given as goal

-- the lines so far are counted
abbrev pub invariant-loop-line : goal.invariant-loop-line
invariant-loop-line l = AreLeft (lanes_of (take l.line-index l.lines)) l.left
