use Rattle.cb_world_tests.proofs.acting.are_told.Given as goal

abbrev pub invariant-loop-row : goal.invariant-loop-row
invariant-loop-row g l = g.A.Acts.may l.seats
