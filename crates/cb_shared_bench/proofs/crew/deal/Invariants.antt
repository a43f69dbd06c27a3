use Rattle.std.specs.Prelude.{All}
use Rattle.cb_shared.specs.Passes.{IsPassOf}
use Rattle.cb_shared_bench.specs.Callers.{IsCaller}
use Rattle.cb_shared_bench.proofs.crew.deal.Given as goal

abbrev pub invariant-loop-thread : goal.invariant-loop-thread
invariant-loop-thread g l = IsPassOf l.shared l.first
    × All (λ x. IsCaller l.shared x.handle x.pass) l.parts.items
