use Rattle.cb_shared.specs.Passes.{IsPassOf}
use Rattle.cb_shared_bench.proofs.objects.object.Given as goal

abbrev pub invariant-loop : goal.invariant-loop
invariant-loop g l = IsPassOf l.shared l.pass
