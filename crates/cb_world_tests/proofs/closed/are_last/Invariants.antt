use Rattle.cb_world_tests.proofs.closed.are_last.Given as goal

abbrev pub invariant-loop-i : goal.invariant-loop-i
invariant-loop-i g l = g.A.Acts.may l.seats
