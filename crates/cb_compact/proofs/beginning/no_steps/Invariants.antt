use Rattle.std.proofs.Common.{◌≡◌, replicate, None}
use Rattle.cb_compact.proofs.beginning.no_steps.Given as goal

abbrev pub invariant-loop : goal.invariant-loop
invariant-loop l = l.steps.items ≡ replicate l.counter None
