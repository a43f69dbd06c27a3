use Rattle.cb_world_tests.specs.Callers.{IsCaller}
use Rattle.cb_world_tests.proofs.making.make_all.Given as goal

-- the pass knows all that were made
abbrev pub invariant-loop-i : goal.invariant-loop-i
invariant-loop-i g l = IsCaller l.shared l.objects.items l.pass
