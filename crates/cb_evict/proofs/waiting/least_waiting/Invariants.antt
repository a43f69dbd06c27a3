use Rattle.std.proofs.Common.{◌≡◌, ℕ, ◌<◌, false}
use Rattle.cb_evict.specs.Waiting.{waits_at}
use Rattle.cb_evict.proofs.waiting.least_waiting.Given as goal

abbrev pub invariant-loop-p : goal.invariant-loop-p
invariant-loop-p l = (k : ℕ) → k < l.p → waits_at l.members l.shards k ≡ false
