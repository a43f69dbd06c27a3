use Rattle.std.proofs.Common.{◌≡◌, ℕ, ◌<◌, false}
use Rattle.cb_compact.specs.PatchStep.{is_undone}
use Rattle.cb_compact.proofs.steps.next_step.Given as goal

abbrev pub invariant-loop-position : goal.invariant-loop-position
invariant-loop-position l = (q : ℕ) → q < l.position → is_undone l.pair l.k q ≡ false
