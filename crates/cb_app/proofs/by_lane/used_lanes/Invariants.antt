use Rattle.std.proofs.Common.{take}
use Rattle.cb_app.proofs.UsedLanes.{FlagsOfLanes}
use Rattle.cb_app.proofs.by_lane.used_lanes.Given as goal

-- the flags tell which lanes the lines so far have
abbrev pub invariant-loop-line : goal.invariant-loop-line
invariant-loop-line l = FlagsOfLanes l.used (take l.line-index l.lines)
