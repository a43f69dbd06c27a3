use Rattle.cb_shared.specs.Passes.{IsPassOf}
use Rattle.cb_world_tests.proofs.values.are_rows.Given as goal

abbrev pub invariant-loop-foul : goal.invariant-loop-foul
invariant-loop-foul g l = IsPassOf l.shared l.pass
