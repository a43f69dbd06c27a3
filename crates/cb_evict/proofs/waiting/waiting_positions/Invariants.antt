use Rattle.cb_evict.proofs.WhichWait.{FoundWaiting}
use Rattle.cb_evict.proofs.waiting.waiting_positions.Given as goal

abbrev pub invariant-loop-p : goal.invariant-loop-p
invariant-loop-p l = FoundWaiting l.members l.shards l.p l.found l.count
