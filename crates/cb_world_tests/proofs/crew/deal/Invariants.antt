use Rattle.std.specs.Prelude.{All}
use Rattle.cb_world_tests.specs.Callers.{IsCaller}
use Rattle.cb_world_tests.proofs.crew.deal.Given as goal

-- each pass knows the objects
abbrev pub invariant-loop-thread : goal.invariant-loop-thread
invariant-loop-thread l = IsCaller l.shared l.objects l.first
    × All (λ x. IsCaller l.shared l.objects x.pass) l.parts.items
