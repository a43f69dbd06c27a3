use Rattle.cb_compact.specs.PatchStep.{is_undone}
use Rattle.cb_compact.proofs.Finding.{FoundPassing}
use Rattle.cb_compact.proofs.steps.undone_steps.Given as goal

abbrev pub invariant-loop-position : goal.invariant-loop-position
invariant-loop-position l = FoundPassing (is_undone l.pair l.k) l.position l.found l.count
