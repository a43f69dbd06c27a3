use Rattle.std.proofs.Common.{ℕ, ◌-◌, ◌<◌}
use Rattle.cb_world.specs.OpenSpans.{MayTake}
use Rattle.cb_world.proofs.spans.Spans.least_open.Given as goal

-- no frame before the start can be taken
abbrev pub invariant-loop-start : goal.invariant-loop-start
invariant-loop-start l =
    (g : ℕ) → g < l.start → ¬ (MayTake l.self l.fn.class l.fn.temp l.except g)

abbrev pub decreases-loop-start : goal.decreases-loop-start
decreases-loop-start l = l.count - l.start
