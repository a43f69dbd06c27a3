use Rattle.cb_script.proofs.Front.{another_lane, lane_0}
use Rattle.cb_script.proofs.read.least_behind.Goals as goal

pub returns-then-lane-gt0 : goal.returns-then-lane-gt0
returns-then-lane-gt0 c = λ before l is same. another_lane before l c.args.lane same c.if-lane-gt0.true

pub returns : goal.returns
returns c = λ before l is same. lane_0 before c.args.least l c.args.lane is same c.if-lane-gt0.false
