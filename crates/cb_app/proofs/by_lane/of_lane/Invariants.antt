use Rattle.std.proofs.Common.{◌≡◌, take}
use Rattle.cb_app.specs.ByLane.{of_lane}
use Rattle.cb_app.proofs.by_lane.of_lane.Given as goal

-- the lane's lines so far
abbrev pub invariant-loop-line : goal.invariant-loop-line
invariant-loop-line l = l.own ≡ of_lane l.fn.lane.n (take l.line-index l.lines)
