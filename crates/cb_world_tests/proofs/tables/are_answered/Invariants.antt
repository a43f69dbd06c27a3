use Rattle.cb_world_tests.proofs.tables.are_answered.Given as goal

-- it is still the same caller, which may ask
abbrev pub invariant-loop-row : goal.invariant-loop-row
invariant-loop-row g l = g.A.Asks.keeps l.fn.asked l.asked
