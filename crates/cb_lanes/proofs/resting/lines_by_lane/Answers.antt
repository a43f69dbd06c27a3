use Rattle.std.proofs.Common.{rules, ◌<◌, subst, sym, ℕ}
use Rattle.cb_lanes.proofs.ScopesKept.{lane_below}
use Rattle.cb_lanes.proofs.resting.lines_by_lane.Goals as goal

pub bounds-left-from : goal.bounds-left-from
bounds-left-from c = subst (λ (n : ℕ). n < 16) (sym c.from.ensures)
    (lane_below c.args.lines.now c.loop-line.line-index c.line-item.result c.requires.lanes
    (search rules)
    (search rules))

pub bounds-left-from-in-loop-line : goal.bounds-left-from-in-loop-line
bounds-left-from-in-loop-line c = subst (λ (n : ℕ). n < 16) (sym c.from.ensures)
    (lane_below c.args.lines.now c.loop-line.line-index c.line-item.result c.requires.lanes
    (search rules)
    (search rules))
