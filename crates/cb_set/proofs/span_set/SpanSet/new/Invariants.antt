use Rattle.std.proofs.Common.{◌≡◌, replicate}
use Rattle.cb_set.specs.SetState.{dead_position}
use Rattle.cb_set.proofs.span_set.SpanSet.new.Given as goal

abbrev pub invariant-loop : goal.invariant-loop
invariant-loop l = l.positions.items ≡ replicate l.counter dead_position
