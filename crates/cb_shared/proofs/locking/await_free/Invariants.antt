use Rattle.std.proofs.Common.{◌≤◌}
use Rattle.cb_shared.proofs.locking.await_free.Given as goal

abbrev pub invariant-loop : goal.invariant-loop
invariant-loop g l = l.spins ≤ 4000
