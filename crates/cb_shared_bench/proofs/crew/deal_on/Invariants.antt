use Rattle.std.specs.Prelude.{All}
use Rattle.cb_shared_bench.specs.Callers.{IsCaller}
use Rattle.cb_shared_bench.proofs.crew.deal_on.Given as goal

abbrev pub invariant-loop-thread : goal.invariant-loop-thread
invariant-loop-thread l = IsCaller l.shared l.h l.first
    × All (λ x. IsCaller l.shared x.handle x.pass) l.parts.items
