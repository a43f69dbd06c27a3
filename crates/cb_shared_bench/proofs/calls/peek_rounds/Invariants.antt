use Rattle.cb_shared.specs.Passes.{IsPinOf}
use Rattle.cb_shared_bench.specs.Callers.{IsCaller}
use Rattle.cb_shared_bench.proofs.calls.peek_rounds.Given as goal

abbrev pub invariant-loop : goal.invariant-loop
invariant-loop l = IsCaller l.shared l.h l.pass × IsPinOf l.pin l.pass.seat.me.0
