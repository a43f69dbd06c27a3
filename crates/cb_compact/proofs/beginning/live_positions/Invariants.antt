use Rattle.std.proofs.Common.{◌≡◌}
use Rattle.cb_set.specs.SetState.{live_at}
use Rattle.cb_compact.proofs.Finding.{passing}
use Rattle.cb_compact.proofs.beginning.live_positions.Given as goal

abbrev pub invariant-loop-position : goal.invariant-loop-position
invariant-loop-position l = l.live.items ≡ passing (live_at l.set) l.position
