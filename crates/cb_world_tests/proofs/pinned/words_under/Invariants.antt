use Rattle.cb_shared.specs.Passes.{IsPinOf}
use Rattle.cb_world_tests.specs.Callers.{IsCaller}
use Rattle.cb_world_tests.proofs.pinned.words_under.Given as goal

-- the pass is still one that knows the objects, and has the pin
abbrev pub invariant-loop-index : goal.invariant-loop-index
invariant-loop-index l = IsCaller l.shared l.objects l.pass × IsPinOf l.pin l.pass.seat.me.0
