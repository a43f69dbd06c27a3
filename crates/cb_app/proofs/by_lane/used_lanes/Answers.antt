use Rattle.std.proofs.Common.{◌<◌, rules}
use Rattle.cb_app.proofs.UsedLanes.{none_raised, raised}
use Rattle.cb_app.proofs.by_lane.used_lanes.Goals as goal

pub loop-line-init : goal.loop-line-init
loop-line-init c = none_raised

pub loop-line-preserved : goal.loop-line-preserved
loop-line-preserved c =
    let l = c.line-item.result in
    let low : l.lane.n < 256 = search rules in
    rw c.from.ensures (raised c.loop-line.used c.args.lines.now c.loop-line.line-index l l (search rules)
    c.line-item.is low c.loop-line.invariant)
