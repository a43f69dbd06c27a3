use Rattle.cb_shared.specs.Passes.{IsPinOf}
use Rattle.cb_shared_bench.specs.Callers.{IsCaller}
use Rattle.cb_shared_bench.proofs.calls.peek_first.Given as goal

abbrev pub invariant-loop-index : goal.invariant-loop-index
invariant-loop-index l = IsCaller l.shared l.h l.pass × IsPinOf l.pin l.pass.seat.me.0
