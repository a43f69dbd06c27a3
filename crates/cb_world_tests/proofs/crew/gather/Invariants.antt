use Rattle.std.specs.Prelude.{All, IfOk}
use Rattle.cb_world_tests.specs.Callers.{IsCaller}
use Rattle.cb_world_tests.proofs.crew.gather.Given as goal

-- each pass knows the objects
abbrev pub invariant-ends : goal.invariant-ends
invariant-ends l = IsCaller l.shared l.objects l.first
    × All (λ r. IfOk r (λ e. IsCaller l.shared l.objects e.pass)) l.ends.items
